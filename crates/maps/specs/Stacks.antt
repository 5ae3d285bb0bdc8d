-- The items of a stack, from the handle of its first node.
use Rattle.std.specs.Prelude.{List, [], ◌∷◌, Option, None, Some}
use Rattle.maps.specs.declared.links.Node.{Node}

abbrev pub items : {T : Type 0} → Option (Node T) → List T
items None = []
items (Some node) = node.value ∷ node.rest
