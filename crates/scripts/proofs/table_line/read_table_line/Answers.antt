use Rattle.std.proofs.Common.{rules}
use Rattle.scripts.specs.Line.{IsInvalid}
use Rattle.scripts.proofs.Lines.{invalid}
use Rattle.scripts.specs.TableLine.{table_line}
use Rattle.scripts.proofs.table_line.read_table_line.Goals as goal

pub returns-in_err-read_line-clause-none : goal.returns-in_err-read_line-clause-none
returns-in_err-read_line-clause-none c =
    let none : IsInvalid table_line c.args.text.now = λ asked. c.in_err-read_line.ensures.none _ _ in
    search (rules, none)

pub returns-clause-none : goal.returns-clause-none
returns-clause-none c = invalid table_line _ _ _ _ c.in_ok-read_line.ensures.line c.asked_by.ensures.none
