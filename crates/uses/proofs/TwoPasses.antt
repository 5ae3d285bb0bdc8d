-- Two passes that have met, and are all the passes of their count.
use Rattle.std.proofs.Common.{◌≡◌, ℕ, zero, suc, ◌+◌, ◌<◌, sym, ap, ◌∙◌, arith, List}
use Rattle.servo_arc.specs.Event.{Event}
use Rattle.servo_arc.specs.History.{IsLegal, owned_by, calls_of}
use Rattle.servo_arc.specs.HistoryLaws.{count_calls, is_last, is_mark, OneEndIsLast}
use Rattle.servo_arc.specs.Passes.{CountId, Pass, handles, own_calls, HasSeenMore}

-- what a pass of this name has seen since
module _ (name : ℕ) (old new : Pass) (is : old.name ≡ name) (same : new.name ≡ old.name) where
  pub own_is : HasSeenMore old new → calls_of name new.seen ≡ own_calls old
  own_is more = ap (λ (n : ℕ). calls_of n new.seen) (sym (same ∙ is)) ∙ more.own

  pub spent_is : (self : CountId) → old.count ≡ self → new.count ≡ old.count → self.passes ≡ 2
      → handles new ≡ handles old → handles old ≡ 0 → owned_by 2 name new.seen ≡ 0
  spent_is self mine kept two owned none =
      ap (λ (n : ℕ). owned_by n name new.seen) (sym (ap (λ (c : CountId). c.passes) (kept ∙ mine) ∙ two))
      ∙ ap (λ (n : ℕ). owned_by new.count.passes n new.seen) (sym (same ∙ is)) ∙ owned ∙ none

-- a fact about each of two names
of_both : (P : ℕ → Type 0) → P 0 → P 1 → (p : ℕ) → p < 2 → P p
of_both P first second zero low = first
of_both P first second (suc zero) low = second
of_both P first second (suc (suc p)) low = absurd (omega arith)

pub one_was_last : (law : OneEndIsLast) (h : List Event) (first second : List Event) → IsLegal 2 h
    → calls_of 0 h ≡ first → calls_of 1 h ≡ second → owned_by 2 0 h ≡ 0 → owned_by 2 1 h ≡ 0
    → count_calls is_mark first + count_calls is_mark second ≡ 0
    → count_calls is_last first + count_calls is_last second ≡ 1
one_was_last law h first second legal own own' spent spent' unmarked =
    let a : count_calls is_mark (calls_of 0 h) ≡ 0 = ap (count_calls is_mark) own ∙ omega arith in
    let b : count_calls is_mark (calls_of 1 h) ≡ 0 = ap (count_calls is_mark) own' ∙ omega arith in
    let sum = law 2 h (omega arith) legal (of_both (λ p. owned_by 2 p h ≡ 0) spent spent')
    (of_both (λ p. count_calls is_mark (calls_of p h) ≡ 0) a b) in
    let c = ap (count_calls is_last) own in
    let d = ap (count_calls is_last) own' in
    omega arith
