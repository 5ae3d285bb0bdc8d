use Rattle.std.proofs.Common.{sym, ap, subst, ◌∙◌}
use Rattle.scripts.specs.Fault.{status_after}
use Rattle.scripts.specs.Written.{WroteBeginning}
use Rattle.scripts.proofs.Statuses.{arguments, unread, read, unwritten, wrote, quiet, same_note, no_fault_of_zero}
use Rattle.scripts.proofs.program.bench.Goals as goal

pub returns-in-Ok-clause-arguments : goal.returns-in-Ok-clause-arguments
returns-in-Ok-clause-arguments g c =
    arguments _ 0 (ap status_after (sym c.in-Ok.is)) c.do_as_asked.ensures.arguments

pub returns-in-Ok-clause-unread : goal.returns-in-Ok-clause-unread
returns-in-Ok-clause-unread g c = unread _ 0 (ap status_after (sym c.in-Ok.is)) c.do_as_asked.ensures.unread

pub returns-in-Ok-clause-read : goal.returns-in-Ok-clause-read
returns-in-Ok-clause-read g c = read _ 0 (ap status_after (sym c.in-Ok.is)) c.do_as_asked.ensures.read

pub returns-in-Ok-clause-unwritten : goal.returns-in-Ok-clause-unwritten
returns-in-Ok-clause-unwritten g c =
    unwritten _ 0 (ap status_after (sym c.in-Ok.is)) c.do_as_asked.ensures.unwritten

pub returns-in-Ok-clause-wrote : goal.returns-in-Ok-clause-wrote
returns-in-Ok-clause-wrote g c = wrote _ 0 (ap status_after (sym c.in-Ok.is)) c.do_as_asked.ensures.wrote

pub returns-in-Ok-clause-reported : goal.returns-in-Ok-clause-reported
returns-in-Ok-clause-reported g c = λ fault is. no_fault_of_zero fault is

pub returns-in-Err-clause-arguments : goal.returns-in-Err-clause-arguments
returns-in-Err-clause-arguments g c =
    arguments _ _ (c.report.ensures.status ∙ ap status_after (sym c.in-Err.is)) c.do_as_asked.ensures.arguments

pub returns-in-Err-clause-unread : goal.returns-in-Err-clause-unread
returns-in-Err-clause-unread g c =
    unread _ _ (c.report.ensures.status ∙ ap status_after (sym c.in-Err.is)) c.do_as_asked.ensures.unread

pub returns-in-Err-clause-read : goal.returns-in-Err-clause-read
returns-in-Err-clause-read g c =
    read _ _ (c.report.ensures.status ∙ ap status_after (sym c.in-Err.is)) c.do_as_asked.ensures.read

pub returns-in-Err-clause-unwritten : goal.returns-in-Err-clause-unwritten
returns-in-Err-clause-unwritten g c =
    unwritten _ _ (c.report.ensures.status ∙ ap status_after (sym c.in-Err.is)) c.do_as_asked.ensures.unwritten

pub returns-in-Err-clause-wrote : goal.returns-in-Err-clause-wrote
returns-in-Err-clause-wrote g c =
    wrote _ _ (c.report.ensures.status ∙ ap status_after (sym c.in-Err.is)) c.do_as_asked.ensures.wrote

pub returns-in-Err-clause-quiet : goal.returns-in-Err-clause-quiet
returns-in-Err-clause-quiet g c = quiet _ _ c.report.ensures.status c.report.ensures.quiet

pub returns-in-Err-clause-reported : goal.returns-in-Err-clause-reported
returns-in-Err-clause-reported g c = λ fault is.
    subst (λ note. WroteBeginning note (g.E.Write.contents c.args.errors.now) (g.E.Write.contents c.report.new.errors))
    (same_note c.in-Err.fault fault (sym c.report.ensures.status ∙ is)) c.report.ensures.reported
