-- What the answer of a step says of it in a legal trace.
use Rattle.counting_core.proofs.Names.{EachStepHasOneAnswer, BarredExactlyIfNotPermitted, ◌≡◌, Bool, true, false, refl}
use Rattle.counting_core.proofs.Names.{sym, ◌∙◌, ap, subst, true≢false, inl, inr, ⊎_elim, IsTrue, nat_lt, if◌then◌else◌}
use Rattle.counting_core.proofs.Names.{true_from_ne_false, false_from_ne_true, and_parts, Step, Answer, Pending, Memory}
use Rattle.counting_core.proofs.Names.{Barred, Trace, Then, State, owner_of, permitted, permitted_by, Model}
use Rattle.counting_core.proofs.Names.{model_after, move, outcome, expected, takes_memory, IsAnswer, state, model, ℕ}
use Rattle.counting_core.proofs.Names.{IsLimit, Open, IsLegal, nat_eq, Activity}
use Rattle.counting_core.proofs.Traces.Deeds.{Deed, deed_of, outcome_is, not_barred, pending_stays, next, goes_on}
use Rattle.counting_core.proofs.Traces.Places.{put-all}

module _ {V : Type 0} where
  -- a step answered Barred or Memory counts for nothing
  abbrev pub takes_effect : Answer V → Bool
  takes_effect Barred = false
  takes_effect Memory = false
  takes_effect _ = true

  -- a step that takes effect was permitted, and it is one of the deeds
  pub record Happens (t : Trace V) (s : Step V) (a : Answer V) : Type 0 where
    pub permitted : permitted (state t) s ≡ true
    pub by_activity : permitted_by (state t) ((state t).activity (owner_of s)) s ≡ true
    pub deed : Deed (model t) (state t) s a (model (Then t s a))

  -- the model after a deed
  pub model-deed : (r : Model V) (u : State) (s : Step V) (a : Answer V) (m : Model V) → takes_effect a ≡ true
      → Deed r u s a m → model_after r u s a ≡ m
  model-deed r u s Barred m effect d = absurd (true≢false (sym effect))
  model-deed r u s Memory m effect d = absurd (true≢false (sym effect))
  model-deed r u s Pending m effect d = sym (pending_stays r u s m d)
  model-deed r u s a m effect d = ap (λ (x : Answer V × Model V). x.1) (outcome_is r u s a m d)

  -- what is expected of a permitted step: an answer, and the model after it
  abbrev expected_outcome : Trace V → Step V → Answer V × Model V
  expected_outcome t s = outcome (model t) (move (model t) (state t) s)

  abbrev IsDeed : Trace V → Step V → Answer V → Type 0
  IsDeed t s a = Deed (model t) (state t) s a (expected_outcome t s).1

  -- the answer that is expected, by whether the step is permitted
  pub expected-by : (t : Trace V) (s : Step V) (b : Bool) → permitted (state t) s ≡ b
      → expected t s ≡ (if b then (expected_outcome t s).0 else Barred)
  expected-by t s b = ap (λ c. if c then (expected_outcome t s).0 else Barred)

  -- the deed of a permitted step
  pub expected-deed : (t : Trace V) (s : Step V) → permitted (state t) s ≡ true → IsDeed t s (expected t s)
  expected-deed t s may = subst (IsDeed t s) (sym (expected-by t s true may))
      (deed_of (model t) (state t) s (and_parts (nat_lt (owner_of s) (state t).owners) _ may).1)

  pub happens : (t : Trace V) (s : Step V) (a : Answer V) → takes_effect a ≡ true → IsAnswer t s a → Happens t s a
  happens t s a effect answer = record {
    permitted = may;
    by_activity = (and_parts _ _ may).1;
    deed = subst (Deed (model t) (state t) s a) (sym (model-deed (model t) (state t) s a _ effect done)) done;
  } where
    as_expected : a ≡ expected t s
    as_expected = ⊎_elim (λ e. e) (λ m. absurd (true≢false (sym effect ∙ ap takes_effect m.0))) answer

    may : permitted (state t) s ≡ true
    may = true_from_ne_false _ (λ e. true≢false (sym effect ∙ ap takes_effect (as_expected ∙ expected-by t s false e)))

    done : IsDeed t s a
    done = subst (IsDeed t s) (sym as_expected) (expected-deed t s may)

  -- After a step that happens its owner has gone on, and the others are in the middle of what they were.
  pub each_owner : (t : Trace V) (s : Step V) (a : Answer V) (h : Happens t s a) (P : ℕ → Activity → Type 0)
      → P (owner_of s) (next (model t) (state t) h.deed)
      → ((q : ℕ) → nat_eq (owner_of s) q ≡ false → P q ((state t).activity q))
      → (q : ℕ) → P q ((state (Then t s a)).activity q)
  each_owner t s a h P own others =
      subst (λ (doing : ℕ → Activity). (q : ℕ) → P q (doing q)) (sym (goes_on (model t) (state t) h.deed h.by_activity))
      (put-all (state t).activity (owner_of s) _ P own others)

  -- What holds of each block as it is opened, stays where a step counts for nothing, and holds after each step that
  -- happens, holds of each legal trace.
  module _ (P : Trace V → Type 0) (opens : (v : V) (n limit : ℕ) → IsLimit limit → P (Open v n limit))
      (stays : (t : Trace V) (s : Step V) → P t → P (Then t s Barred) × P (Then t s Memory))
      (happening : (t : Trace V) (s : Step V) (a : Answer V) → IsLegal (Then t s a) → Happens t s a → P t
      → P (Then t s a)) where
    pub each_legal : (t : Trace V) → IsLegal t → P t
    each_legal (Open v n limit) legal = opens v n limit legal
    each_legal (Then t s Barred) legal = (stays t s (each_legal t legal.0)).0
    each_legal (Then t s Memory) legal = (stays t s (each_legal t legal.0)).1
    each_legal (Then t s a) legal = happening t s a legal (happens t s a refl legal.1) (each_legal t legal.0)

  -- each step has a legal answer, and no other but Memory
  pub one_answer : EachStepHasOneAnswer V
  one_answer t s legal = ((legal, inl refl), λ a other. ⊎_elim inl (λ m. inr m.0) other.1)

  -- and it is Barred exactly if the step is not permitted
  pub barred_if_not_permitted : BarredExactlyIfNotPermitted V
  barred_if_not_permitted t s a legal = (given, refused) where
    given : a ≡ Barred → permitted (state t) s ≡ false
    given e = false_from_ne_true _ (λ may. not_barred (model t) (state t) s (expected_outcome t s).1
        (subst (IsDeed t s) (⊎_elim (λ d. sym d ∙ e) (λ m. absurd (cc)) legal.1) (expected-deed t s may)))

    refused : permitted (state t) s ≡ false → a ≡ Barred
    refused e =
        ⊎_elim (λ d. d ∙ expected-by t s false e)
        (λ m. absurd (true≢false (sym (subst (λ x. IsTrue (takes_memory s x)) (expected-by t s false e) m.1)))) legal.1
