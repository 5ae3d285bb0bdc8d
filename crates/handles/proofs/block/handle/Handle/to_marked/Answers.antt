use Rattle.std.proofs.Common.{[], sym, subst}
use Rattle.counting_word.specs.WordSteps.{marks}
use Rattle.counting_word.specs.Logs.{made}
use Rattle.counting_word.specs.Tallies.{Adds}
use Rattle.handles.proofs.Logs.Marks.{marks_shown}
use Rattle.handles.proofs.block.handle.Handle.to_marked.Goals as goal

-- the mark is in the log
pub marked_by-requires-clause-mark : goal.marked_by-requires-clause-mark
marked_by-requires-clause-mark g c = marks_shown _ _ c.mark.result.0 c.mark.result.1.log c.mark.ensures.log

pub returns-clause-log : goal.returns-clause-log
returns-clause-log g c = let known = c.marked_by.ensures in (
  known.1,
  c.mark.result.0,
  subst (λ log. Adds c.args.self.now.held.limit.count [] (made c.args.self.now.number marks) c.mark.result.0 log)
      (sym known.2) c.mark.ensures.log,
)
