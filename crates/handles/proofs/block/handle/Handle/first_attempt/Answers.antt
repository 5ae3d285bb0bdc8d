use Rattle.handles.proofs.Logs.Founds.{read_found}
use Rattle.handles.proofs.block.handle.Handle.first_attempt.Goals as goal

-- the read found the word
pub next_attempt-requires-clause-seen : goal.next_attempt-requires-clause-seen
next_attempt-requires-clause-seen g c = let read = c.read-word in (
  read.ensures.held,
  read.ensures.block,
  read.ensures.id,
  read.ensures.right,
  read.ensures.within,
  (_, _, read.ensures.log),
  read_found _ c.args.self.now.held.limit.in_range _ _ read.result.0 read.result.1.log read.ensures.log,
)
