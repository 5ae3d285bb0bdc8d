-- A sole handle is the only live one of an unmarked block, and it is lent to nobody.
use Rattle.counting_core.proofs.Names.{SoleHandleIsTheOnlyOne, SoleDropGivesUp, ◌≡◌, ℕ, Bool, true, false, not, ◌&&◌}
use Rattle.counting_core.proofs.Names.{◌||◌, nat_eq, nat_lt, List, [], ◌∷◌, length, if◌then◌else◌, refl, sym, ◌∙◌, ap}
use Rattle.counting_core.proofs.Names.{subst, arith, true≢false, eqb-true, eq-eqb, list_any, and_parts, not-true}
use Rattle.counting_core.proofs.Names.{Access, SharedAccess, Written, SoleAccess, Activity, Dropping, Step, Raise, Drop}
use Rattle.counting_core.proofs.Names.{Lower, Mark, IntoUnique, Lend, Return, Answer, Pending, Ended, GivenUp, Trace}
use Rattle.counting_core.proofs.Names.{HandleState, unborn, newborn, lent_to, returned_by, State, handle_in, owner_of}
use Rattle.counting_core.proofs.Names.{after, ended, put, is_shared, is_sole, is_lent_to, has_alone, may_use, permitted}
use Rattle.counting_core.proofs.Names.{permitted_by, Model, Ends, opened, is_only, Visible, Internal, outcome, expected}
use Rattle.counting_core.proofs.Names.{IsLegal, state, model, live_handles, has_mark}
use Rattle.counting_core.proofs.Traces.HandleLists.{has}
use Rattle.counting_core.proofs.Traces.Places.{put-all}
use Rattle.counting_core.proofs.Traces.Deeds.{Deed, clone_bears, raise_bears, drop_ends, lower_ends, lower_gives_up}
use Rattle.counting_core.proofs.Traces.Deeds.{marks, finds_alone, writes, ends_write, becomes_sole, shares, lends}
use Rattle.counting_core.proofs.Traces.Deeds.{returns, gives, grown}
use Rattle.counting_core.proofs.Traces.LegalSteps.{each_legal, expected-by}
use Rattle.counting_core.proofs.Traces.LiveHandles.{IsCounted, counted, live-in}
use Rattle.counting_core.proofs.Traces.InFlight.{AllFit, Fits, all_fit, parts-alone, dropped-lives}
use Rattle.counting_core.proofs.Traces.Activities.{raising, lowering, begins}

-- a list of one handle is that handle
one-is : (h : ℕ) (xs : List ℕ) → length xs ≡ 1 → has h xs ≡ true → xs ≡ h ∷ []
one-is h [] e there = absurd (true≢false (sym there))
one-is h (x ∷ []) e there = let is : h ≡ x = eqb-true h x (or_none (nat_eq h x) there) in
    ap (λ n. n ∷ []) (sym is) where
      or_none : (b : Bool) → (b || false) ≡ true → b ≡ true
      or_none true e = refl
      or_none false e = e
one-is h (x ∷ y ∷ xs) e there = absurd (omega arith)

none-is : (xs : List ℕ) → length xs ≡ 0 → xs ≡ []
none-is [] e = refl
none-is (x ∷ xs) e = absurd (omega arith)

-- nothing sole is shared
shared-not_sole : (a : Access) → is_shared a ≡ true → is_sole a ≡ false
shared-not_sole SharedAccess e = refl
shared-not_sole Written e = refl
shared-not_sole SoleAccess e = sym e

-- a handle that is lent to somebody has a borrower
lent-some : (k : HandleState) (o : ℕ) → length k.borrowers ≡ 0 → is_lent_to k o ≡ false
lent-some k o none = ap (list_any (nat_eq o)) (none-is k.borrowers none)

-- the handle of a clone in flight is shared
cloning-shared : (V : Type 0) (u : State) → AllFit u → (o : ℕ)
    → permitted_by {V = V} u (u.activity o) (Raise o) ≡ true
    → (k : ℕ) × ((u.handle k).lives ≡ true) × (is_shared (u.handle k).access ≡ true)
cloning-shared V u fit o may =
    let k : ℕ = handle_in (u.activity o) in
    let uses : may_use (u.handle k) o ≡ true = subst (Fits u.handle o) (raising V u o _ may) (fit o) in
    (k, (and_parts _ _ uses).0, (and_parts _ _ (and_parts _ _ uses).1).1)

-- no live handle is sole
abbrev NoneSole : State → Type 0
NoneSole u = (h : ℕ) → (u.handle h).lives ≡ true → is_sole (u.handle h).access ≡ true → ⊥

module _ {V : Type 0} where
  -- if the handle lives and is sole, no other lives, and it is lent to nobody
  abbrev IsAloneIfSole : Model V → ℕ → HandleState → Type 0
  IsAloneIfSole m h k =
      k.lives ≡ true → is_sole k.access ≡ true → (is_only m h ≡ true) × (length k.borrowers ≡ 0)

  abbrev SolesAreAlone : (ℕ → HandleState) → Model V → Type 0
  SolesAreAlone hs m = (h : ℕ) → IsAloneIfSole m h (hs h)

  not-sole : (m : Model V) (h : ℕ) (k : HandleState) → is_sole k.access ≡ false → IsAloneIfSole m h k
  not-sole m h k other = λ lives sole. absurd (true≢false (sym sole ∙ other))

  module _ (r : Model V) (u : State) (c : IsCounted u.handle r) (was : SolesAreAlone u.handle r) where
    -- a live handle beside a sole one is that one
    only-live : (h k : ℕ) → (u.handle h).lives ≡ true → is_sole (u.handle h).access ≡ true
        → (u.handle k).lives ≡ true → k ≡ h
    only-live h k lives sole other =
        let parts : (nat_eq (length r.live) 1 ≡ true) × (has h r.live ≡ true)
        = and_parts _ _ (and_parts (not r.mark) _ (was h lives sole).0).1 in
        let one : r.live ≡ h ∷ [] = one-is h r.live (eqb-true (length r.live) 1 parts.0) parts.1 in
        at (nat_eq k h) refl (sym (ap (has k) one) ∙ live-in u.handle r c k ∙ other) where
          at : (b : Bool) → nat_eq k h ≡ b → (nat_eq k h || false) ≡ true → k ≡ h
          at true e there = eqb-true k h e
          at false e there = absurd (true≢false (sym there ∙ ap (λ b. b || false) e))

    -- so there is none beside a live one that is shared
    none-beside : (k : ℕ) → (u.handle k).lives ≡ true → is_shared (u.handle k).access ≡ true → NoneSole u
    none-beside k lives shared h other sole =
        true≢false (sym sole ∙ ap (λ n. is_sole (u.handle n).access) (sym (only-live h k other sole lives))
        ∙ shared-not_sole (u.handle k).access shared)

    none-marked : r.mark ≡ true → NoneSole u
    none-marked mark h lives sole = true≢false (sym (and_parts (not r.mark) _ (was h lives sole).0).0 ∙ ap not mark)

    -- a change of one handle
    alone-put : (h : ℕ) (k : HandleState) → IsAloneIfSole r h k → SolesAreAlone (put u.handle h k) r
    alone-put h k here = put-all u.handle h k (IsAloneIfSole r) here (λ g _. was g)

    alone-not_sole : (h : ℕ) (k : HandleState) → is_sole k.access ≡ false → SolesAreAlone (put u.handle h k) r
    alone-not_sole h k other = alone-put h k (not-sole r h k other)

    -- if there is no other sole handle, the model may change too
    alone-only : (n : Model V) (h : ℕ) (k : HandleState) → IsAloneIfSole n h k
        → ((g : ℕ) → nat_eq h g ≡ false → (u.handle g).lives ≡ true → is_sole (u.handle g).access ≡ true → ⊥)
        → SolesAreAlone (put u.handle h k) n
    alone-only n h k here none = put-all u.handle h k (IsAloneIfSole n)
        here (λ g other lives sole. absurd (none g other lives sole))

    -- the end of a live handle
    alone-ended : (n : Model V) (h : ℕ) → (u.handle h).lives ≡ true → SolesAreAlone (ended u h).handle n
    alone-ended n h lives =
        alone-only n h (record (u.handle h) { lives = false }) (λ dead _. absurd (true≢false (sym dead)))
        (λ g other alive sole. true≢false (sym (eq-eqb h g (only-live g h alive sole lives)) ∙ other))

    module _ (fit : AllFit u) where
      alone-lowered : (n : Model V) (o h : ℕ) → u.activity o ≡ Dropping h
          → SolesAreAlone (ended u (handle_in (u.activity o))).handle n
      alone-lowered n o h e = subst (λ (a : Activity). SolesAreAlone (ended u (handle_in a)).handle n) (sym e)
          (alone-ended n h (dropped-lives u fit o h e))

      -- a birth, if no other handle is sole
      alone-born : (o : ℕ) → NoneSole u → SolesAreAlone (put u.handle r.births (newborn o)) (grown r)
      alone-born o none = alone-only (grown r) r.births (newborn o) (not-sole (grown r) r.births (newborn o) refl)
          (λ g _. none g)

      alone-then : (s : Step V) (a : Answer V) (m : Model V) → Deed r u s a m
          → permitted_by u (u.activity (owner_of s)) s ≡ true → (sees : ℕ)
          → SolesAreAlone (after sees u s a).handle m
      alone-then s a m (clone_bears o h mark room) may sees = alone-born o (none-marked mark)
      alone-then s a m (raise_bears o settles room) may sees =
          let clone : _ = cloning-shared V u fit o may in
          alone-born o (none-beside clone.0 clone.1 clone.2)
      alone-then s a m (drop_ends o h mark) may sees = alone-ended m h (and_parts _ _ (and_parts _ _
          (parts-alone (u.handle h) o (begins u (Drop o h) _ may refl).1)).0).0
      alone-then s a m (lower_ends o h e more) may sees = alone-lowered m o h e
      alone-then s a m (lower_gives_up o h e last) may sees = alone-lowered m o h e
      alone-then s a m (marks o h) may sees =
          let uses : may_use (u.handle h) o ≡ true = (begins u (Mark o h) _ may refl).1 in
          λ g lives sole. absurd (none-beside h (and_parts _ _ uses).0 (and_parts _ _ (and_parts _ _ uses).1).1
          g lives sole)
      alone-then s a m (finds_alone o h only) may sees = alone-not_sole h _ refl
      alone-then s a m (ends_write o h) may sees = alone-not_sole h _ refl
      alone-then s a m (shares o h) may sees = alone-not_sole h _ refl
      alone-then s a m (becomes_sole o h only) may sees =
          let own : has_alone (u.handle h) o ≡ true = (and_parts _ _ (begins u (IntoUnique o h) _ may refl).1).0 in
          alone-put h (record (u.handle h) { access = SoleAccess }) (λ _ _. (only, eqb-true _ 0 (and_parts _ _ own).1))
      alone-then s a m (lends o h to) may sees =
          let lend : _ = (begins u (Lend o h to) _ may refl).1 in
          alone-not_sole h (lent_to (u.handle h) to)
          (shared-not_sole (u.handle h).access (and_parts _ _ (and_parts _ _ lend).1).0)
      alone-then s a m (returns o h) may sees =
          let lent : is_lent_to (u.handle h) o ≡ true = (and_parts _ _ (begins u (Return o h) _ may refl).1).1 in
          alone-put h (returned_by (u.handle h) o)
          (λ lives sole. absurd (true≢false (sym lent ∙ lent-some (u.handle h) o (was h lives sole).1)))
      alone-then s a m (gives o h to) may sees = alone-put h (record (u.handle h) { holder = to }) (was h)
      alone-then s a m (writes o h v) may sees = was
      alone-then s a m _ may sees = was

  soles_are_alone : (t : Trace V) → IsLegal t → SolesAreAlone (state t).handle (model t)
  soles_are_alone = each_legal (λ t. SolesAreAlone (state t).handle (model t))
      (λ v n limit _. put-all (λ h. unborn) 0 (newborn 0) (IsAloneIfSole (opened v limit))
      (not-sole (opened v limit) 0 (newborn 0) refl) (λ g _. not-sole (opened v limit) g unborn refl))
      (λ _ _ was. (was, was))
      (λ t s a legal h was. alone-then (model t) (state t) (counted t legal.0) was (all_fit t legal.0) s a _ h.deed
      h.by_activity (length (model t).live))

  -- while a handle is sole, no other lives, the block is unmarked, and the handle is lent to nobody
  pub sole_is_only : SoleHandleIsTheOnlyOne V
  sole_is_only t h legal sole =
      let alone : (is_only (model t) h ≡ true) × (length ((state t).handle h).borrowers ≡ 0)
      = soles_are_alone t legal h sole.lives sole.sole in
      let parts : (not (has_mark t) ≡ true) × ((nat_eq (length (live_handles t)) 1 && has h (live_handles t))
      ≡ true) = and_parts _ _ alone.0 in
      let live : (nat_eq (length (live_handles t)) 1 ≡ true) × (has h (live_handles t) ≡ true)
      = and_parts _ _ parts.1 in (
        one-is h (live_handles t) (eqb-true (length (live_handles t)) 1 live.0) live.1,
        not-true (has_mark t) parts.0,
        none-is ((state t).handle h).borrowers alone.1,
      )

  -- its drop is in flight after its read, and gives the value up by its lower
  pub sole_drop_gives_up : SoleDropGivesUp V
  sole_drop_gives_up t o h legal sole = (reads, lowers) where
    reads : permitted {V = V} (state t) (Drop o h) ≡ true → expected t (Drop o h) ≡ Pending
    reads may =
        expected-by t (Drop o h) true may
        ∙ ap (λ b. (outcome (model t) (if b then Visible (Ends h) else Internal Pending)).0)
        (sole_is_only t h legal sole).1

    last : permitted {V = V} (state t) (Lower o) ≡ true → is_only (model t) (handle_in ((state t).activity o)) ≡ true
    last may =
        let k : ℕ = handle_in ((state t).activity o) in
        let e : (state t).activity o ≡ Dropping k = lowering V (state t) o ((state t).activity o)
        (and_parts (nat_lt o (state t).owners) (permitted_by {V = V} (state t) ((state t).activity o) (Lower o))
        may).1 in
        let same : k ≡ h = only-live (model t) (state t) (counted t legal) (soles_are_alone t legal) h k
        sole.lives sole.sole (dropped-lives (state t) (all_fit t legal) o k e) in
        ap (is_only (model t)) same ∙ (soles_are_alone t legal h sole.lives sole.sole).0

    lowers : permitted {V = V} (state t) (Lower o) ≡ true → expected t (Lower o) ≡ GivenUp (model t).value
    lowers may =
        expected-by t (Lower o) true may
        ∙ ap (λ b. if b then GivenUp (model t).value else Ended) (last may)
