use Rattle.std.proofs.Common.{◌≡◌, ◌+◌, length}
use Rattle.handles.proofs.header_slice.items.Items.drop.Given as goal

-- what is left is what is still to be counted
abbrev pub invariant-loop : goal.invariant-loop
invariant-loop g l = l.counter + length l.leaving.items ≡ l.number
