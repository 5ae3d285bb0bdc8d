-- A stack is longer than its rest.
use Rattle.std.specs.Prelude.{◌≤◌, ℕ, length, Option, None, Some}
use Rattle.std.proofs.Common.{arith}
use Rattle.maps.specs.declared.links.Node.{Node}
use Rattle.maps.specs.declared.links.Links.TheDeep.{deep-Links}
use Rattle.maps.specs.Stacks.{items}

pub depth_le-length-items : {T : Type 0} → (first : Option (Node T)) → (len : ℕ)
    → deep-Links T (record { first = first; len = len }) ≤ length (items first)
depth_le-length-items None len = omega arith
depth_le-length-items (Some node) len = omega arith
