use Rattle.std.proofs.Common.{◌≡◌, ◌≤◌, ◌^◌, length}
use Rattle.sequence.proofs.tree.Tree.shrink.Given as goal

-- no item was passed
abbrev pub invariant-down : goal.invariant-down
invariant-down g l = record { same : l.only.0 ≡ l.fn.self.0; wide : 2 ^ l.only.1 ≤ length l.only.0 }

abbrev pub decreases-down : goal.decreases-down
decreases-down g l = l.only.1
