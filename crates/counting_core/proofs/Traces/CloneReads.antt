-- What a read of the word for a clone finds: the limit, or a number of handles that a raise straight after it finds
-- again.
use Rattle.counting_core.proofs.Names.{FullExactlyAtLimit, BornStraightAfterRead, ◌≡◌, ℕ, true, false, not, nat_eq}
use Rattle.counting_core.proofs.Names.{length, refl, sym, ◌∙◌, ap, true≢false, inl, inr, ⊎_elim, eqb-true, eq-eqb}
use Rattle.counting_core.proofs.Names.{and_parts, and_from, or_parts, or_right, not-true, Cloning, Step, Clone, Raise}
use Rattle.counting_core.proofs.Names.{Answer, Born, Full, Pending, Then, State, after, owner_of, limit_of, seen_in}
use Rattle.counting_core.proofs.Names.{permitted, permitted_by, Model, is_full, raise_settles, expected, takes_memory}
use Rattle.counting_core.proofs.Names.{IsLegal, state, model, live_handles, has_mark, is_clone_read, nat_lt, handle_in}
use Rattle.counting_core.proofs.Traces.HandleLists.{nat_eq-same}
use Rattle.counting_core.proofs.Traces.Deeds.{EachDeed, Deed, clone_reads, clone_bears, clone_full, raise_loses}
use Rattle.counting_core.proofs.Traces.Deeds.{raise_bears, raise_full}
use Rattle.counting_core.proofs.Traces.LegalSteps.{Happens, happens, expected-deed}
use Rattle.counting_core.proofs.Traces.Limits.{model_limit}
use Rattle.counting_core.proofs.Traces.Places.{put-here}

module _ {V : Type 0} where
  -- only a read for a clone is answered Full, and the model is full then
  full-deed : (r : Model V) (u : State) (s : Step V) (m : Model V) → Deed r u s Full m
      → (is_clone_read s ≡ true) × (is_full r ≡ true)
  full-deed r u s m (clone_full o h full) = (refl, full)
  full-deed r u s m (raise_full o full) = (refl, full)

  -- a full model answers Full to each read for a clone, and takes no memory for that
  full-answer : EachDeed V (λ r u s a m. is_clone_read s ≡ true → is_full r ≡ true
      → (a ≡ Full) × (takes_memory s a ≡ false))
  full-answer r u s a m (clone_full o h _) read full = (refl, refl)
  full-answer r u s a m (raise_full o _) read full = (refl, refl)
  full-answer r u s a m (clone_reads o h _ room) read full = absurd (true≢false (sym full ∙ room))
  full-answer r u s a m (clone_bears o h mark room) read full = absurd (true≢false (sym full ∙ room))
  full-answer r u s a m (raise_bears o settles room) read full = absurd (true≢false (sym full ∙ room))
  full-answer r u s a m (raise_loses o lost)
      read full = absurd (true≢false (sym full ∙ (or_parts _ _ (or_parts _ _ lost).1).0))
  full-answer r u s a m _ read full = absurd (true≢false (sym read))

  -- a clone is refused exactly if its read finds the limit, without a mark
  pub full_exactly_at_limit : FullExactlyAtLimit V
  full_exactly_at_limit t s a legal = (found a legal, refused) where
    found : (a : Answer V) → IsLegal (Then t s a) → a ≡ Full
        → (permitted (state t) s ≡ true) × (is_clone_read s ≡ true) × (has_mark t ≡ false)
        × (length (live_handles t) ≡ limit_of t)
    found Full legal e =
        let h : Happens t s Full = happens t s Full refl legal.1 in
        let read : (is_clone_read s ≡ true) × (is_full (model t) ≡ true) = full-deed (model t)
        (state t) s _ h.deed in
        let parts : (not (has_mark t) ≡ true) × (nat_eq (length (live_handles t))
        (model t).limit ≡ true) = and_parts _ _ read.1 in
        (h.permitted, read.0, not-true _ parts.0, eqb-true _ _ parts.1 ∙ model_limit t legal.0)
    found a legal e = absurd (cc)

    refused : (permitted (state t) s ≡ true) × (is_clone_read s ≡ true) × (has_mark t ≡ false)
        × (length (live_handles t) ≡ limit_of t)
        → a ≡ Full
    refused at =
        let full : is_full (model t) ≡ true = and_from _ _ (ap not at.2)
        (eq-eqb _ _ (at.3 ∙ sym (model_limit t legal.0))) in
        let answer : (expected t s ≡ Full) × (takes_memory s (expected t s) ≡ false) = full-answer (model t)
        (state t) s (expected t s) _ (expected-deed t s at.0) at.1 full in
        ⊎_elim (λ e. e ∙ answer.0) (λ m. absurd (true≢false (sym m.1 ∙ answer.1))) legal.1

  -- a read for a clone that is answered Pending found no mark and not the limit
  pending-read : (r : Model V) (u : State) (s : Step V) (m : Model V) → Deed r u s Pending m
      → is_clone_read s ≡ true → (r.mark ≡ false) × (is_full r ≡ false)
  pending-read r u s m (clone_reads o h mark room) read = (mark, room)
  pending-read r u s m (raise_loses o lost) read = ((or_parts _ _ lost).0, (or_parts _ _ (or_parts _ _ lost).1).0)
  pending-read r u s m _ read = absurd (true≢false (sym read))

  -- a raise that is settled below the limit is a birth
  birth-deed : (r : Model V) (u : State) (o : ℕ) (a : Answer V) (m : Model V) → Deed r u (Raise o) a m
      → raise_settles r (seen_in (u.activity o)) ≡ true → is_full r ≡ false → a ≡ Born r.births
  birth-deed r u o a m (raise_bears _ _ _) settles room = refl
  birth-deed r u o a m (raise_full _ full) settles room = absurd (true≢false (sym full ∙ room))
  birth-deed r u o a m (raise_loses _ lost) settles room = absurd (true≢false (sym settles ∙ lost))

  -- what an owner is in the middle of whose read for a clone was answered Pending
  read-sees : (sees : ℕ) (u : State) (s : Step V) → is_clone_read s ≡ true
      → (h : ℕ) × ((after sees u s Pending).activity (owner_of s) ≡ Cloning h sees)
  read-sees sees u (Clone o h) read = (h, put-here u.activity o (Cloning h sees))
  read-sees sees u (Raise o) read = (_, put-here u.activity o (Cloning (handle_in (u.activity o)) sees))
  read-sees sees u _ read = absurd (true≢false (sym read))

  -- a raise is permitted to it
  raise-permitted : (sees : ℕ) (u : State) (s : Step V) → is_clone_read s ≡ true → permitted u s ≡ true
      → permitted {V = V} (after sees u s Pending) (Raise (owner_of s)) ≡ true
  raise-permitted sees u s read may = and_from _ _ (within s read may)
      (ap (λ c. permitted_by {V = V} (after sees u s Pending) c (Raise (owner_of s))) (read-sees sees u s read).1) where
        within : (s : Step V) → is_clone_read s ≡ true → permitted u s ≡ true
            → nat_lt (owner_of s) (after sees u s Pending).owners ≡ true
        within (Clone o h) read may = (and_parts _ _ may).0
        within (Raise o) read may = (and_parts _ _ may).0
        within _ read may = absurd (true≢false (sym read))

  -- a raise straight after its read is answered Born, if memory is not wanted
  pub born_straight_after_read : BornStraightAfterRead V
  born_straight_after_read t s a legal read = ⊎_elim (λ e. inl (e ∙ as_expected)) (λ m. inr m.0) legal.1 where
    read_it : Happens t s Pending
    read_it = happens t s Pending refl legal.0.1

    found : (has_mark t ≡ false) × (is_full (model t) ≡ false)
    found = pending-read (model t) (state t) s _ read_it.deed read

    settles : raise_settles (model (Then t s Pending)) (seen_in ((state (Then t s Pending)).activity (owner_of s)))
        ≡ true
    settles = or_right (has_mark t) _ (or_right (is_full (model t)) _
        (ap (λ c. nat_eq (length (live_handles t)) (seen_in c)) (read-sees (length (live_handles t)) (state t) s read).1
        ∙ nat_eq-same (length (live_handles t))))

    as_expected : expected (Then t s Pending) (Raise (owner_of s)) ≡ Born (model t).births
    as_expected =
        birth-deed (model (Then t s Pending)) (state (Then t s Pending)) (owner_of s) _ _
        (expected-deed (Then t s Pending) (Raise (owner_of s)) (raise-permitted _ (state t) s read read_it.permitted))
        settles found.1
