use Rattle.std.proofs.Common.{◌≡◌, take}
use Rattle.std.specs.List.{fold}
use Rattle.cascade.specs.Cascade.{declared}
use Rattle.cascade.proofs.style.Style.cascade.Given as goal

-- what was declared so far is taken
abbrev pub invariant-loop-declaration : goal.invariant-loop-declaration
invariant-loop-declaration l = l.style ≡ fold declared l.self (take l.declaration-index l.declarations)
