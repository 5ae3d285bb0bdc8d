use Rattle.std.proofs.Common.{◌≡◌, ◌++◌, reverse}
use Rattle.maps.proofs.stack.Stack.reverse.Given as goal

-- what is left is put in front, one after another
abbrev pub invariant-loop-item : goal.invariant-loop-item
invariant-loop-item g l = reverse l.item-iterator ++ l.reversed ≡ reverse l.self
