use Rattle.std.proofs.Common.{sym, ◌∙◌, subst, true}
use Rattle.counting_word.specs.CountingWord.{is_marked_word}
use Rattle.counting_word.specs.WordSteps.{asks}
use Rattle.handles.specs.Founds.{Answers}
use Rattle.handles.proofs.Logs.Marks.{asks_shown}
use Rattle.handles.proofs.block.handle.Handle.find_marked.Goals as goal

-- the word that was read has the mark, which is then in the log
pub marked_by-requires-clause-mark : goal.marked_by-requires-clause-mark
marked_by-requires-clause-mark g c = let asked = c.is_marked-is_marked in let log = asked.ensures.1 in
    asks_shown _ c.args.self.now.held.limit.in_range c.args.self.now.number log.0 asked.result.1.log log.1
    (sym log.2 ∙ c.if-is_marked.true)

pub returns-then-is_marked-clause-found : goal.returns-then-is_marked-clause-found
returns-then-is_marked-clause-found g c = let asked = c.is_marked-is_marked in let known = c.marked_by.ensures in (
  known.1,
  subst (λ log. Answers c.args.self.now.held.limit.count c.args.self.now.number asks is_marked_word true log)
      (sym known.2)
      (asked.ensures.1.0, asked.ensures.1.1, sym c.if-is_marked.true ∙ asked.ensures.1.2),
)

pub returns-else-is_marked-clause-none : goal.returns-else-is_marked-clause-none
returns-else-is_marked-clause-none g c = let asked = c.is_marked-is_marked.ensures in
    (asked.0, (asked.1.0, asked.1.1, sym c.if-is_marked.false ∙ asked.1.2))
