use Rattle.std.proofs.Common.{◌≡◌, ℕ, arith}
use Rattle.counting_core.specs.declared.step.Step.{Step}
use Rattle.scripts.proofs.Lines.{asks_for_one_thing}
use Rattle.scripts.specs.StepLine.{step_line}
use Rattle.scripts.proofs.laws.each_line_is_one_step.Goals as goal

same_step : (one other : Step ℕ) → (step_line one).0 ≡ (step_line other).0
    → (step_line one).1 ≡ (step_line other).1 → one ≡ other
same_step one other word numbers = grind arith

pub returns : goal.returns
returns c = asks_for_one_thing step_line same_step
