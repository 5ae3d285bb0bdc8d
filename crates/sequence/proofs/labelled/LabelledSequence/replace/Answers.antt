use Rattle.std.proofs.Common.{◌++◌, ◌∙◌, ap, arith, drop, inl, inr, is_ok, take, true≢false}
use Rattle.std.proofs.lemmas.List.{take-take}
use Rattle.sequence.proofs.labelled.LabelledSequence.replace.Goals as goal

pub returns-clause-items : goal.returns-clause-items
returns-clause-items g c =
    let start = c.args.numbers.start in
    let end = c.args.numbers.end in
    let same = c.in_ok-list.ensures.cases in
    let front = c.in_ok-out.ensures.1 ∙ ap (λ es. take start es) c.in_ok-back.ensures.1
    ∙ take-take start end c.in_ok-list.list c.if-end-start.false ∙ ap (λ es. take start es) same in
    let back = c.in_ok-back.ensures.0 ∙ ap (λ es. drop end es) same in
    c.in_ok-append-2.ensures.items
    ∙ ap (λ es. es ++ c.in_ok-back.back) (c.in_ok-append.ensures.items ∙ ap (λ es. es ++ c.args.other) front)
    ∙ ap (λ es. (take start c.args.self.now ++ c.args.other) ++ es) back

pub returns-clause-out : goal.returns-clause-out
returns-clause-out g c =
    let start = c.args.numbers.start in
    let end = c.args.numbers.end in
    c.in_ok-out.ensures.0 ∙ ap (λ es. drop start es) c.in_ok-back.ensures.1
    ∙ ap (λ es. drop start (take end es)) c.in_ok-list.ensures.cases

pub returns-clause-no_place : goal.returns-clause-no_place
returns-clause-no_place g c = (
  λ e. absurd (true≢false (ap (λ r. is_ok r) e)),
  λ outside. elim outside [
    | inl high ↦ absurd (omega (arith, high, c.if-end-len.false, c.len.ensures.count))
    | inr low ↦ absurd (omega (arith, low, c.if-end-start.false))
  ],
)
