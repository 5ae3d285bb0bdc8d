-- When the value is given up, that no step is permitted afterwards, and that a mark keeps it.
use Rattle.counting_core.proofs.Names.{GivenUpOnce, MarkedBlockKeepsItsValue, ◌≡◌, ℕ, Bool, true, false, not, ◌&&◌}
use Rattle.counting_core.proofs.Names.{if◌then◌else◌, nat_eq, List, [], ◌∷◌, length, refl, sym, ◌∙◌, ap, arith}
use Rattle.counting_core.proofs.Names.{true≢false, ⊎_elim, eqb-true, and_parts, and_right, or_cases, fun_ext, Activity}
use Rattle.counting_core.proofs.Names.{Idle, Cloning, Dropping, Step, Raise, Answer, Ended, GivenUp, Memory, Barred}
use Rattle.counting_core.proofs.Names.{Trace, Then, HandleState, State, owner_of, permitted_by, Model, is_only, without}
use Rattle.counting_core.proofs.Names.{IsLegal, state, model, has_mark, live_handles, is_end, is_given_up, some_answer}
use Rattle.counting_core.proofs.Names.{◌||◌, or_right, false_from_ne_true, is_marked_answer}
use Rattle.counting_core.proofs.Traces.HandleLists.{has}
use Rattle.counting_core.proofs.Traces.Deeds.{EachDeed, drop_ends, lower_ends, lower_gives_up, marks}
use Rattle.counting_core.proofs.Traces.LegalSteps.{happens, each_legal, takes_effect, barred_if_not_permitted}
use Rattle.counting_core.proofs.Traces.LiveHandles.{IsCounted, counted, live-in, one-fewer}
use Rattle.counting_core.proofs.Traces.InFlight.{AllFit, Fits, all_fit, dropped-lives}

none : (h : ℕ) (xs : List ℕ) → length xs ≡ 0 → has h xs ≡ false
none h [] e = refl
none h (x ∷ xs) e = absurd (omega arith)

-- a state in which no handle lives
abbrev IsOver : State → Type 0
IsOver u = (h : ℕ) → (u.handle h).lives ≡ false

module _ {V : Type 0} where
  -- the answer to an end: the value, if the model has no mark and no handle is left
  abbrev pub end_answer : Model V → Model V → Answer V
  end_answer m after = if not m.mark && nat_eq (length after.live) 0 then GivenUp m.value else Ended

  -- a live handle is the only one if none is left without it
  only-last : (hs : ℕ → HandleState) (m : Model V) → IsCounted hs m → (h : ℕ) → (hs h).lives ≡ true
      → is_only m h ≡ (not m.mark && nat_eq (length (without h m.live)) 0)
  only-last hs m c h lives =
      grind (arith, live-in hs m c h ∙ lives, one-fewer hs m c h lives)

  end-answer : EachDeed V (λ r u s a m. IsCounted u.handle r → AllFit u → is_end a ≡ true → a ≡ end_answer r m)
  end-answer r u s a m (drop_ends o h mark)
      c fit end = sym (ap (λ b. if not b && nat_eq (length (without h r.live))
      0 then GivenUp r.value else Ended) mark)
  end-answer r u s a m (lower_ends o h e more) c fit end =
      ap (λ b. if b then GivenUp r.value else Ended)
      (sym more ∙ only-last u.handle r c h (dropped-lives u fit o h e))
  end-answer r u s a m (lower_gives_up o h e last) c fit end =
      ap (λ b. if b then GivenUp r.value else Ended)
      (sym last ∙ only-last u.handle r c h (dropped-lives u fit o h e))
  end-answer r u s a m _ c fit end = absurd (true≢false (sym end))

  ends-happen : (a : Answer V) → is_end a ≡ true → takes_effect a ≡ true
  ends-happen Barred e = e
  ends-happen Memory e = e
  ends-happen _ e = refl

  -- an end is answered with the value if it was the last one of an unmarked block
  pub given_up_by_last_end : (t : Trace V) (s : Step V) (a : Answer V) → IsLegal (Then t s a) → is_end a ≡ true
      → a ≡ end_answer (model t) (model (Then t s a))
  given_up_by_last_end t s a legal end =
      end-answer (model t) (state t) s a _ (happens t s a (ends-happen a end) legal.1).deed (counted t legal.0)
      (all_fit t legal.0) end

  given-up-is_end : (a : Answer V) → is_given_up a ≡ true → is_end a ≡ true
  given-up-is_end (GivenUp v) e = refl
  given-up-is_end _ e = absurd (true≢false (sym e))

  -- the value is given up without a mark, and no handle is left
  pub given-up : (t : Trace V) (s : Step V) (a : Answer V) → IsLegal (Then t s a) → is_given_up a ≡ true
      → (has_mark t ≡ false) × (length (live_handles (Then t s a)) ≡ 0)
  given-up t s a legal e = by_mark (has_mark t) (nat_eq (length (live_handles (Then t s a))) 0)
      refl refl (sym e ∙ ap is_given_up (given_up_by_last_end t s a legal (given-up-is_end a e))) where
        by_mark : (m n : Bool) → has_mark t ≡ m → nat_eq (length (live_handles (Then t s a))) 0 ≡ n
            → true ≡ is_given_up (if not m && n then GivenUp (model t).value else Ended)
            → (has_mark t ≡ false) × (length (live_handles (Then t s a)) ≡ 0)
        by_mark false true m n e = (m, eqb-true _ 0 n)
        by_mark false false m n e = absurd (true≢false e)
        by_mark true n m _ e = absurd (true≢false e)

  idle-barred : (u : State) (s : Step V)
      → permitted_by (record u { handle = λ h. record (u.handle h) { lives = false } }) Idle s ≡ false
  idle-barred u (Raise o) = refl
  idle-barred u s = refl

  -- then no step is permitted
  pub none-permitted : (u : State) (s : Step V) → IsOver u → (o : ℕ) (a : Activity) → Fits u.handle o a
      → permitted_by u a s ≡ false
  none-permitted u s over o Idle fits =
      ap (λ (hs : ℕ → HandleState). permitted_by (record u { handle = hs }) Idle s)
      (fun_ext (λ h. λ i. record (u.handle h) { lives = over h i }))
      ∙ idle-barred u s
  none-permitted u s over o (Cloning h n) fits = absurd (true≢false (sym (and_parts _ _ fits).0 ∙ over h))
  none-permitted u s over o (Dropping h)
      fits = absurd (true≢false (sym (and_parts _ _ (and_parts _ _ fits).0).0 ∙ over h))

  -- once the value is given up, no handle lives
  over : (t : Trace V) → IsLegal t → some_answer is_given_up t ≡ true → IsOver (state t)
  over = each_legal (λ t. some_answer is_given_up t ≡ true → IsOver (state t))
      (λ _ _ _ _ e. absurd (true≢false (sym e))) (λ _ _ was. (was, was))
      (λ t s a legal h was e. ⊎_elim
      (λ now. λ h. sym (live-in (state (Then t s a)).handle (model (Then t s a)) (counted (Then t s a) legal) h)
      ∙ none h (live_handles (Then t s a)) (given-up t s a legal now).1)
      (λ before. absurd (true≢false (sym h.by_activity ∙ none-permitted (state t) s (was before) (owner_of s) _
      (all_fit t legal.0 (owner_of s)))))
      (or_cases (is_given_up a) _ e))

  -- once the value is given up, every step is Barred
  pub given_up_once : GivenUpOnce V
  given_up_once t s a legal given =
      (barred_if_not_permitted t s a legal).1 (and_right _ _ (none-permitted (state t) s (over t legal.0 given)
      (owner_of s) _ (all_fit t legal.0 (owner_of s))))

module _ {V : Type 0} where
  -- a step marks if it is answered Marked
  mark-then : EachDeed V (λ r u s a m. m.mark ≡ (is_marked_answer a || r.mark))
  mark-then r u s a m (marks o h) = refl
  mark-then r u s a m _ = refl

  -- a model is marked if some answer was Marked
  pub marked_if_answered : (t : Trace V) → IsLegal t → has_mark t ≡ some_answer is_marked_answer t
  marked_if_answered = each_legal (λ t. has_mark t ≡ some_answer is_marked_answer t) (λ _ _ _ _. refl)
      (λ _ _ same. (same, same))
      (λ t s a _ h same. mark-then (model t) (state t) s a _ h.deed ∙ ap (λ b. is_marked_answer a || b) same)

  -- a marked block stays marked, and its value is not given up
  pub keeps_mark : MarkedBlockKeepsItsValue V
  keeps_mark t s a legal marked = (
    stays,
    false_from_ne_true _ (λ e. true≢false (sym marked ∙ (given-up t s a
        legal e).0)),
  ) where
    stays : has_mark (Then t s a) ≡ true
    stays =
        marked_if_answered (Then t s a) legal
        ∙ or_right (is_marked_answer a) _ (sym (marked_if_answered t legal.0) ∙ marked)
