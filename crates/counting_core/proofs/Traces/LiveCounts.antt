-- The count of a word that represents a trace: its live handles, and the drops in flight that it covers.
use Rattle.counting_core.proofs.Names.{◌≡◌, ℕ, zero, suc, ◌+◌, ◌<◌, ◌≤◌, Bool, true, false, if◌then◌else◌, nat_eq}
use Rattle.counting_core.proofs.Names.{nat_lt, List, length, take_all, count_by, refl, sym, ◌∙◌, ap, subst, arith}
use Rattle.counting_core.proofs.Names.{le_trans, le_refl, ltb-true, eqb-true, and_parts, false_from_ne_true}
use Rattle.counting_core.proofs.Names.{is_marked_word, count_of, IsLimit, IsWithin, Activity, Dropping, Lower, Trace}
use Rattle.counting_core.proofs.Names.{HandleState, unborn, State, limit_of, handle_in, has_alone, permitted}
use Rattle.counting_core.proofs.Names.{permitted_by, without, CoreState, Represents, is_dropping, drops_in_flight}
use Rattle.counting_core.proofs.Names.{number_below, live_handles, has_mark, state, model, IsLegal, get_or}
use Rattle.counting_core.proofs.Traces.Limits.{legal_limit, no_count_passes_limit}
use Rattle.counting_core.proofs.Names.{lt-ltb, ◌&&◌}
use Rattle.counting_core.proofs.Traces.HandleLists.{one_if, times, times-without, length-without}
use Rattle.counting_core.proofs.Traces.LiveHandles.{counted, one-fewer}
use Rattle.counting_core.proofs.Traces.InFlight.{all_fit, dropped-alone, dropped-lives}
use Rattle.counting_core.proofs.Traces.Activities.{lowering}
use Rattle.counting_core.proofs.Traces.NumberBelow.{number-length, number-count_by, number-some}

-- owners with handles of their own are no more than the handles
pigeonhole : (of : ℕ → Activity) → ((o p h : ℕ) → of o ≡ Dropping h → of p ≡ Dropping h → o ≡ p)
    → (n : ℕ) (xs : List ℕ) → ((o h : ℕ) → o < n → of o ≡ Dropping h → 1 ≤ times h xs)
    → number_below (λ o. is_dropping (of o)) n ≤ length xs
pigeonhole of apart zero xs own = omega arith
pigeonhole of apart (suc n) xs own = by_last (of n) refl (pigeonhole of apart n) where
  by_last : (a : Activity) → of n ≡ a
      → ((ys : List ℕ) → ((o h : ℕ) → o < n → of o ≡ Dropping h → 1 ≤ times h ys)
      → number_below (λ o. is_dropping (of o)) n ≤ length ys)
      → one_if (is_dropping a) + number_below (λ o. is_dropping (of o)) n ≤ length xs
  by_last (Dropping h) e fewer =
      let le : number_below (λ o. is_dropping (of o)) n ≤ length (without h xs) = fewer (without h xs) others in
      let here : 1 ≤ times h xs = own n h (omega arith) e in
      omega (arith, length-without h xs) where
        others : (o k : ℕ) → o < n → of o ≡ Dropping k → 1 ≤ times k (without h xs)
        others o k lt q = subst (λ m. 1 ≤ m) (sym (times-without k h xs
            ∙ ap (λ b. if b then 0 else times k xs) (false_from_ne_true (nat_eq h k) same)))
            (own o k (omega arith) q) where
              same : nat_eq h k ≡ true → ⊥
              same i = let is : o ≡ n = apart o n k q (e ∙ ap Dropping (eqb-true h k i)) in omega arith
  by_last a e fewer =
      let le : number_below (λ o. is_dropping (of o)) n ≤ length xs = fewer xs (λ o h lt q. own o h (omega arith) q) in
      omega arith

-- an owner holds the handle that it alone has
holder-is : (k : HandleState) (o : ℕ) → has_alone k o ≡ true → k.holder ≡ o
holder-is k o own = grind arith

module _ {V : Type 0} (t : Trace V) (legal : IsLegal t) where
  -- without the handle of a drop in flight one handle fewer lives
  pub dropped-fewer : (o h : ℕ) → (state t).activity o ≡ Dropping h
      → length (without h (live_handles t)) + 1 ≡ length (live_handles t)
  dropped-fewer o h e = one-fewer (state t).handle (model t) (counted t legal) h
      (dropped-lives (state t) (all_fit t legal) o h e)

  -- as many live as pass the test by which the handles ever born, in a list, are those that live
  pub live-listed : {A : Type 0} (passes : A → Bool) (d : A) (xs : List A) → (model t).births ≡ length xs
      → ((h : ℕ) → ((state t).handle h).lives ≡ passes (get_or xs h d)) → length (live_handles t) ≡ count_by passes xs
  live-listed passes d xs births same =
      number-length (λ h. passes (get_or xs h d)) (length xs) (live_handles t) (λ h. (counted t legal).once h
      ∙ ap one_if (within h (((state t).handle h).lives) refl ∙ ap (λ b. nat_lt h (length xs) && b) (same h)))
      ∙ number-count_by passes d xs (length xs) (le_refl (length xs))
      ∙ ap (count_by passes) (take_all (length xs) xs (le_refl (length xs))) where
        within : (h : ℕ) (b : Bool) → ((state t).handle h).lives ≡ b
            → ((state t).handle h).lives ≡ (nat_lt h (length xs) && ((state t).handle h).lives)
        within h true e = let lt : h < (model t).births = (counted t legal).below h e in
            rw (e, lt-ltb h (length xs) (omega arith)) refl
        within h false e = grind (arith, e)

  -- each drop in flight is of a live handle of its own
  pub drops-le-live : drops_in_flight (state t) ≤ length (live_handles t)
  drops-le-live = pigeonhole (state t).activity apart (state t).owners (live_handles t) (λ o h lt e.
      let once : times h (live_handles t) ≡ 1 = (counted t legal).once h
      ∙ ap one_if (dropped-lives (state t) (all_fit t legal) o h e) in omega arith) where
        apart : (o p h : ℕ) → (state t).activity o ≡ Dropping h → (state t).activity p ≡ Dropping h → o ≡ p
        apart o p h d e =
            sym (holder-is ((state t).handle h) o (dropped-alone (state t) (all_fit t legal) o h d))
            ∙ holder-is ((state t).handle h) p (dropped-alone (state t) (all_fit t legal) p h e)

module _ {V : Type 0} (core : CoreState V) (t : Trace V) (r : Represents core t) where
  -- as many handles live as the core has live
  live-counted : length (live_handles t) ≡ count_by (λ (k : HandleState). k.lives) core.handles
  live-counted = live-listed t r.legal (λ (k : HandleState). k.lives) unborn core.handles (sym r.same_births)
      (λ h. ap (λ (u : State). (u.handle h).lives) (sym r.same_state))

  -- the count of an unmarked word is the number of live handles
  pub count_is_live : is_marked_word core.word ≡ false
      → (count_of core.word ≡ length (live_handles t))
      × (count_of core.word ≡ count_by (λ (k : HandleState). k.lives) core.handles)
  count_is_live unmarked =
      let count : count_of core.word ≡ length (live_handles t)
      = r.word.counts_live (sym r.word.same_mark ∙ unmarked) in
      (count, count ∙ live-counted)

  -- the core's limit is one that a block may have, and an unmarked count is not above it
  pub core_limit : IsLimit core.limit
  core_limit = subst IsLimit (sym r.same_limit) (legal_limit t r.legal)

  pub core_within : IsWithin core.word core.limit
  core_within unmarked =
      let count : count_of core.word ≡ length (live_handles t) = (count_is_live unmarked).0 in
      let few : length (live_handles t)
      ≤ limit_of t = no_count_passes_limit t r.legal (sym r.word.same_mark ∙ unmarked) in
      let limit : core.limit ≡ limit_of t = r.same_limit in
      omega arith

  -- if a lower is permitted, there is a handle to count
  pub lower_counts : (o : ℕ) → permitted {V = V} (state t) (Lower o) ≡ true → 1 ≤ count_of core.word
  lower_counts o may = by_mark (has_mark t) refl where
    parts : (nat_lt o (state t).owners ≡ true)
        × (permitted_by {V = V} (state t) ((state t).activity o) (Lower o) ≡ true)
    parts = and_parts _ _ may

    is : (state t).activity o ≡ Dropping (handle_in ((state t).activity o))
    is = lowering V (state t) o ((state t).activity o) parts.1

    by_mark : (b : Bool) → has_mark t ≡ b → 1 ≤ count_of core.word
    by_mark true m = le_trans (number-some (λ q. is_dropping ((state t).activity q)) o (state t).owners
        (ap is_dropping is) (ltb-true o (state t).owners parts.0)) (r.word.covers_drops m)
    by_mark false m =
        let one_less : length (without (handle_in ((state t).activity o)) (live_handles t)) + 1
        ≡ length (live_handles t) = dropped-fewer t r.legal o _ is in
        let count : count_of core.word ≡ length (live_handles t) = r.word.counts_live m in
        omega arith
