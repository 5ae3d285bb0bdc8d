use Rattle.std.proofs.Common.{◌≡◌, length, take}
use Rattle.sequence.specs.Nodes.{items_in}
use Rattle.sequence.proofs.tree.search.count.Given as goal

abbrev pub invariant-loop-child : goal.invariant-loop-child
invariant-loop-child g l = l.count ≡ length (items_in (take l.child-index l.children))
