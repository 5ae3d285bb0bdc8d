use Rattle.handles.proofs.Logs.Founds.{lost_right, raise_found}
use Rattle.handles.proofs.block.handle.Handle.next_attempt.Goals as goal

-- a raise that was lost found the word
pub returns-else-found-word-clause-shows : goal.returns-else-found-word-clause-shows
returns-else-found-word-clause-shows g c = let raise = c.raise-found in (
  (
    raise.ensures.held,
    raise.ensures.block,
    raise.ensures.id,
    lost_right c.args.word raise.result.0 raise.result.1.right raise.ensures.right c.if-found-word.false,
    raise.ensures.within,
    (_, _, raise.ensures.log),
    raise_found _ c.args.self.now.held.limit.in_range _ _ _ raise.result.0 raise.result.1.log raise.ensures.log
        c.if-found-word.false,
  ),
  (_, _, raise.result.0, raise.ensures.log, c.if-found-word.false),
)
