use Rattle.std.proofs.Common.{◌≡◌, ◌∙◌, ℕ, Err, List, Some, ap, arith, get_or, inr, is_ok, length, length-set, set}
use Rattle.std.proofs.Common.{slice_get, subst, swap, sym, true≢false}
use Rattle.std.specs.Prelude.{IsErrAnd}
use Rattle.std.proofs.lemmas.List.Edits.{swap_is}
use Rattle.std.proofs.lemmas.Option.{get_or_from_slice_get, slice_get_within}
use Rattle.sequence.proofs.labelled.as_vec.LabelledSequence+T.swap.Goals as goal

-- two writes, each of the item at the other place
two_writes : {T : Type 0} (es : List T) (i j : ℕ) (a b : T) → slice_get es i ≡ Some a → slice_get es j ≡ Some b
    → set (set es i b) j a ≡ swap es i j
two_writes es i j a b at_i at_j =
    ap (λ x. set (set es i x) j a) (sym (get_or_from_slice_get es j b a at_j))
    ∙ ap (λ x. set (set es i (get_or es j a)) j x) (sym (get_or_from_slice_get es i a a at_i))
    ∙ swap_is es i j a (slice_get_within es i a at_i) (slice_get_within es j b at_j)

pub returns-clause-items : goal.returns-clause-items
returns-clause-items g c =
    let es = c.in_ok-swapped.swapped in
    let i = c.args.i in
    let j = c.args.j in
    let old = c.in_ok-item-2 in
    c.in_ok-set.ensures.items
    ∙ ap (λ es. set es j old.item)
    (old.ensures.items ∙ ap (λ x. set es i x) (c.requires.copies _ _ c.in_ok-item.ensures.cases))
    ∙ two_writes es i j old.item c.index.result.now old.ensures.item c.index.ensures
    ∙ ap (λ es. swap es i j) c.in_ok-swapped.ensures.cases

pub returns-in_err-set-clause-no_place : goal.returns-in_err-set-clause-no_place
returns-in_err-set-clause-no_place g c = (
  λ e.
      let is = subst (λ r. IsErrAnd r (λ y. y ≡ c.in_err-set.field-0.0)) e c.from_residual-in_err-set.ensures.1 in
      let over = c.in_err-set.ensures.no_place.0 (ap (λ y. Err y) (sym is)) in
      let set_in = ap (λ es. length es) c.in_ok-item-2.ensures.items in
      let same = ap (λ es. length es) c.in_ok-swapped.ensures.cases in
      inr (omega (arith, over, set_in, length-set c.in_ok-swapped.swapped c.args.i c.in_ok-item.item, same)),
  λ outside. absurd (omega (arith, outside, c.if-max-len.false, c.max.ensures, c.len.ensures.count)),
)

pub returns-clause-no_place : goal.returns-clause-no_place
returns-clause-no_place g c = (
  λ e. absurd (true≢false (ap (λ r. is_ok r) e)),
  λ outside. absurd (omega (arith, outside, c.if-max-len.false, c.max.ensures, c.len.ensures.count)),
)
