-- Each tree that shrinks keeps its items, and is wide enough to hang below another.
use Rattle.std.proofs.Common.{◌++◌, ◌∙◌, ap, inl, inr, length, refl, sym}
use Rattle.sequence.proofs.Calls.{told_at}
use Rattle.sequence.proofs.tree.Tree.append.Goals as goal

pub hang-requires-clause-len : goal.hang-requires-clause-len
hang-requires-clause-len g c = c.requires.more ∙ sym (ap (λ es. length es) c.shrink-else-is_err.ensures.same)

pub hang-requires-clause-more : goal.hang-requires-clause-more
hang-requires-clause-more g c = c.requires.len ∙ sym (ap (λ es. length es) c.shrink.ensures.same)

pub hang-requires-clause-wide : goal.hang-requires-clause-wide
hang-requires-clause-wide g c = (
  told_at c.shrink-else-is_err.result (sym c.if-is_err-2.ensures.value) c.shrink-else-is_err.ensures.wide,
  told_at c.shrink.result (sym c.if-is_err.ensures.value) c.shrink.ensures.wide,
)

pub hang-requires-clause-edge : goal.hang-requires-clause-edge
hang-requires-clause-edge g c = inl refl

pub returns-then-height-others : goal.returns-then-height-others
returns-then-height-others g c =
    c.in_ok-hang.ensures ∙ (λ i. c.shrink.ensures.same i ++ c.shrink-else-is_err.ensures.same i)

pub hang-requires-2-clause-len : goal.hang-requires-2-clause-len
hang-requires-2-clause-len g c = c.requires.len ∙ sym (ap (λ es. length es) c.shrink.ensures.same)

pub hang-requires-2-clause-more : goal.hang-requires-2-clause-more
hang-requires-2-clause-more g c = c.requires.more ∙ sym (ap (λ es. length es) c.shrink-else-is_err.ensures.same)

pub hang-requires-2-clause-wide : goal.hang-requires-2-clause-wide
hang-requires-2-clause-wide g c = (
  told_at c.shrink.result (sym c.if-is_err.ensures.value) c.shrink.ensures.wide,
  told_at c.shrink-else-is_err.result (sym c.if-is_err-2.ensures.value) c.shrink-else-is_err.ensures.wide,
)

pub hang-requires-2-clause-edge : goal.hang-requires-2-clause-edge
hang-requires-2-clause-edge g c = inr refl
