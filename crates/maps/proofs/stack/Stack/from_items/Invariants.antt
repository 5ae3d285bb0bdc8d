use Rattle.std.proofs.Common.{◌≡◌, ◌++◌, length}
use Rattle.maps.proofs.stack.Stack.from_items.Given as goal

-- what is left stands before the stack
abbrev pub invariant-loop-item : goal.invariant-loop-item
invariant-loop-item g l = l.items.items ++ l.stack ≡ l.fn.items.items

abbrev pub decreases-loop-item : goal.decreases-loop-item
decreases-loop-item g l = length l.items.items
