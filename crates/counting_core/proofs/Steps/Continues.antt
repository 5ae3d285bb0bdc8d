-- A step by the word that it finds goes on with each trace that the core represents.
use Rattle.counting_core.proofs.Names.{IsTrue, ◌≡◌, inl, inr, ℕ, true, length, refl, sym, ◌∙◌, ap, subst, or_parts}
use Rattle.counting_core.proofs.Names.{StandsFor, Step, Answer, Memory, Barred, Trace, Then, after, permitted, Model}
use Rattle.counting_core.proofs.Names.{state, model, takes_memory, IsAnswer, CoreState, Represents, state_of, Continues}
use Rattle.counting_core.proofs.Names.{IsReached, drops_in_flight, value_after, births_after, TakesEffect, FollowsWord}
use Rattle.counting_core.proofs.Traces.Deeds.{EachDeed, Deed, clone_reads, raise_loses, clone_bears, writes}
use Rattle.counting_core.proofs.Traces.LegalSteps.{takes_effect, Happens, happens, expected-by}
use Rattle.counting_core.proofs.Steps.ByTheWord.{answers_by_word, word-now, stands_for}

module _ {V : Type 0} where
  value-then : EachDeed V (λ r u s a m. value_after r.value s ≡ m.value)
  value-then r u s a m (writes o h v) = refl
  value-then r u s a m _ = refl

  births-then : EachDeed V (λ r u s a m. births_after r.births a ≡ m.births)
  births-then r u s a m (clone_bears _ _ _ _) = refl
  births-then r u s a m _ = refl

  -- what a read for a clone sees are the live handles
  sees-same : (f : CoreState V) (t : Trace V) → Represents f t → (s : Step V) (a : Answer V) (m : Model V)
      → Deed (model t) (state t) s a m
      → after f.word (state t) s a ≡ after (length (model t).live) (state t) s a
  sees-same f t r s a m (clone_reads o h mark room) = ap (λ n. after n (state t) s a) (word-now f t r mark)
  sees-same f t r s a m (raise_loses o lost) =
      ap (λ n. after n (state t) s a) (word-now f t r (or_parts _ _ lost).0)
  sees-same f t r s a m _ = refl

  -- a step that takes effect
  goes_on : (f d : CoreState V) (s : Step V) (a : Answer V) → takes_effect a ≡ true → TakesEffect f s a d
      → Continues f s a d
  goes_on f d s a effect w t r = record {
    legal = (r.legal, is);
    same_state = same;
    same_value = w.same_value ∙ ap (λ v. value_after v s) r.same_value ∙ value-then (model t) (state t) s a _ h.deed;
    same_limit = w.same_limit ∙ r.same_limit;
    same_births =
        w.same_births ∙ ap (λ n. births_after n a) r.same_births ∙ births-then (model t) (state t) s a _ h.deed;
    word = subst (λ n. StandsFor n (model (Then t s a)).mark (length (model (Then t s a)).live)
        (drops_in_flight (state (Then t s a)))) (sym (ap (λ (p : Answer V × ℕ). p.1) w.by_word))
        (stands_for f t r s a _ h.deed may);
  } where
    may : permitted (state t) s ≡ true
    may = ap (λ u. permitted u s) (sym r.same_state) ∙ w.allowed

    is : IsAnswer t s a
    is = inl (ap (λ (p : Answer V × ℕ). p.0) w.by_word ∙ sym (answers_by_word f t s r may))

    h : Happens t s a
    h = happens t s a effect is

    same : state_of d ≡ state (Then t s a)
    same = w.same_state ∙ ap (λ u. after f.word u s a) r.same_state ∙ sees-same f t r s a _ h.deed

  pub continues : (f d : CoreState V) (s : Step V) (a : Answer V) → FollowsWord f s a d → Continues f s a d
  continues f d s Barred (refused, same) t r = subst (λ k. Represents k (Then t s Barred)) (sym same) (record {
    legal = (
      r.legal,
      inl (sym (expected-by t s _ (ap (λ u. permitted u s) (sym r.same_state) ∙ refused))),
    );
    same_state = r.same_state;
    same_value = r.same_value;
    same_limit = r.same_limit;
    same_births = r.same_births;
    word = r.word;
  })
  continues f d s Memory (allowed, takes, same) t r = subst (λ k. Represents k (Then t s Memory)) (sym same) (record {
    legal = (
      r.legal,
      inr (
        refl,
        subst (λ a. IsTrue (takes_memory s a))
            (sym (answers_by_word f t s r (ap (λ u. permitted u s) (sym r.same_state) ∙ allowed))) takes,
      ),
    );
    same_state = r.same_state;
    same_value = r.same_value;
    same_limit = r.same_limit;
    same_births = r.same_births;
    word = r.word;
  })
  continues f d s a w t r = goes_on f d s a refl w t r

  pub reaches : (f d : CoreState V) (s : Step V) (a : Answer V) → FollowsWord f s a d → IsReached f → IsReached d
  reaches f d s a w reached = (Then reached.0 s a, continues f d s a w reached.0 reached.1)
