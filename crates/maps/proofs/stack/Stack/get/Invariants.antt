use Rattle.std.proofs.Common.{◌≡◌, slice_get}
use Rattle.maps.proofs.stack.Stack.get.Given as goal

-- what is left to walk ends at the item
abbrev pub invariant-loop-left : goal.invariant-loop-left
invariant-loop-left g l = slice_get l.links l.left ≡ slice_get l.self l.index

abbrev pub decreases-loop-left : goal.decreases-loop-left
decreases-loop-left g l = l.left
