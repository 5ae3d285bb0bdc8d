-- The document that an edit makes. A path leads to the part that is edited.
use Rattle.std.specs.Prelude.{ℕ, List, Option, Some, String}
use Rattle.std.specs.Option.{option_and_then}
use Rattle.std.specs.declared.alloc.Global.{Global}
use Rattle.uses.specs.declared.documents.Edit.{Edit}
use Rattle.uses.specs.declared.documents.Edit.TheVariants.{Rename, Restyle, Insert, Remove}
use Rattle.uses.specs.declared.documents.Part.{Part}
use Rattle.rose_undo.specs.declared.rose.Rose.{Rose}
use Rattle.cascade.specs.declared.source.Inline.{Inline}
use Rattle.rose_undo.specs.Roses.{at, root, with_inserted, with_value, without}

-- the tree with the change made of a part
abbrev pub with_part : (Part → Part) → List ℕ → Rose Part → Option (Rose Part)
with_part change path tree =
    option_and_then (λ place. with_value path (change (root place)) tree) (at path tree)

-- the tree in which a part has another name
abbrev pub renamed : String Global → List ℕ → Rose Part → Option (Rose Part)
renamed name = with_part (λ part. record part { name = name })

-- the tree in which the element of a part has another block of its own
abbrev pub restyled : Inline → List ℕ → Rose Part → Option (Rose Part)
restyled inline = with_part (λ part. record part { element = record part.element { inline = Some inline } })

abbrev pub edited : Edit → List ℕ → Rose Part → Option (Rose Part)
edited (Rename name) path tree = renamed name path tree
edited (Restyle inline) path tree = restyled inline path tree
edited (Insert i child) path tree = with_inserted path i child tree
edited (Remove i) path tree = without path i tree
