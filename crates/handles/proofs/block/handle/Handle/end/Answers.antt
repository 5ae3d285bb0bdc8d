use Rattle.std.proofs.Common.{ℕ, sym, ◌∙◌, subst}
use mathlib.Core.Logic.{inl, inr}
use Rattle.counting_word.specs.WordSteps.{lowers}
use Rattle.counting_word.specs.Logs.{made}
use Rattle.counting_word.specs.Tallies.{Adds}
use Rattle.handles.specs.declared.block.Held.{Held}
use Rattle.handles.proofs.Logs.Founds.{answers, marked_by_plan}
use Rattle.handles.proofs.block.handle.Handle.end.Goals as goal

-- the read found the mark
pub returns-in-Static-clause-ended : goal.returns-in-Static-clause-ended
returns-in-Static-clause-ended g c = let read = c.read_for_drop-word in (
  c.into_logged.ensures.id ∙ read.ensures.id,
  inl (answers _ _ read.result.0 read.result.1.log _ read.ensures.log
      (marked_by_plan _ (sym c.plan_drop.ensures ∙ c.in-Static.is)) c.into_logged.ensures.log),
)

-- the lower left others
pub returns-else-is_last-clause-ended : goal.returns-else-is_last-clause-ended
returns-else-is_last-clause-ended g c = let lower = c.lower-found in let read = c.read_for_drop-word in (
  c.into_logged-else-is_last.ensures.id ∙ lower.ensures.id ∙ read.ensures.id,
  inr (answers _ read.result.1.log lower.result.0 lower.result.1.log _
      (subst (λ (n : ℕ). Adds c.args.self.held.limit.count read.result.1.log (made n lowers) lower.result.0
      lower.result.1.log) read.ensures.number
      (subst (λ (h : Held _). Adds h.limit.count read.result.1.log (made read.result.1.number lowers) lower.result.0
      lower.result.1.log) read.ensures.held lower.ensures.log))
      (sym c.if-is_last.false ∙ c.is_last.ensures) c.into_logged-else-is_last.ensures.log),
)
