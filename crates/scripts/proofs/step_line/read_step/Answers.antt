use Rattle.std.proofs.Common.{rules}
use Rattle.scripts.specs.Line.{IsInvalid}
use Rattle.scripts.proofs.Lines.{invalid}
use Rattle.scripts.specs.StepLine.{step_line}
use Rattle.scripts.proofs.step_line.read_step.Goals as goal

pub returns-in_err-read_line-clause-none : goal.returns-in_err-read_line-clause-none
returns-in_err-read_line-clause-none c =
    let none : IsInvalid step_line c.args.text.now = λ step. c.in_err-read_line.ensures.none _ _ in
    search (rules, none)

pub returns-clause-none : goal.returns-clause-none
returns-clause-none c = invalid step_line _ _ _ _ c.in_ok-read_line.ensures.line c.step_of.ensures.none
