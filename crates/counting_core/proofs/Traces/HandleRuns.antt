-- The steps of a run by a handle that stays, as steps of owner 0.
use Rattle.counting_core.proofs.Names.{◌≡◌, ℕ, ◌+◌, ◌<◌, ◌≤◌, Bool, true, false, not, ◌&&◌, nat_eq, List, [], ◌∷◌, ◌++◌}
use Rattle.counting_core.proofs.Names.{length, length-append, append_assoc, append-nil, if◌then◌else◌, refl, sym, ◌∙◌}
use Rattle.counting_core.proofs.Names.{ap, ap₂, subst, arith, true≢false, eqb-true, ne_eqb, or_right, count_by, get_or}
use Rattle.counting_core.proofs.Names.{nothing, a_handle, whole_block, reads, asks, raises_from, reads_for_unique}
use Rattle.counting_core.proofs.Names.{marks, made, Standing, lives, has_ended, is_counted, SharedAccess, Written, Idle}
use Rattle.counting_core.proofs.Names.{Cloning, Clone, Raise, Quit, Mark, Unique, GetMut, EndWrite, Born, Full, Pending}
use Rattle.counting_core.proofs.Names.{Marked, Is, Alone, Shared, Done, Quitted, Trace, Then, HandleState, newborn, put}
use Rattle.counting_core.proofs.Names.{may_use, may_take, is_writing, Model, is_full, is_only, raise_settles, state}
use Rattle.counting_core.proofs.Names.{model, Report, reports_of, Step, Answer, owner_of, permitted_by}
use Rattle.counting_core.proofs.Traces.Places.{put-all, put-here}
use Rattle.counting_core.proofs.Traces.HandleLists.{has, nat_eq-same}
use Rattle.counting_core.proofs.Traces.Deeds.{Deed, clone_reads, clone_bears, clone_full, raise_bears, quits}
use Rattle.counting_core.proofs.Traces.Deeds.{marks as deed_marks, asks_unique, finds_alone, finds_shared, ends_write}
use Rattle.counting_core.proofs.Traces.Deeds.{grown}
use Rattle.counting_core.proofs.Traces.LegalSteps.{takes_effect}
use Rattle.counting_core.proofs.Traces.Limits.{model_limit}
use Rattle.counting_core.proofs.Traces.LiveHandles.{counted, live-in}
use Rattle.counting_core.proofs.Traces.Shapes.{HeldAs, Shape, Comes, SameOwners, here, makes, same-lives, same-count}
use Rattle.counting_core.proofs.Traces.Shapes.{keeps, bears}

module _ {V : Type 0} (limit : ℕ) where
  -- a trace that has gone on by these reports to these handles
  pub record Goes (owners : ℕ) (hs : List Standing) (mark : Bool) (t : Trace V) (rs : List Report) : Type 0 where
    pub now : Trace V
    pub shape : Shape limit owners hs mark now
    pub few : length hs ≤ (model t).births + 1
    pub reports : reports_of now ≡ reports_of t ++ rs

  module _ (owners : ℕ) (hs : List Standing) (mark : Bool) (t : Trace V) (s : Shape limit owners hs mark t) (h : ℕ)
    where
      -- the handle is the only one if just one is counted
      pub only-by : is_counted (get_or hs h has_ended) ≡ true
          → is_only (model t) h ≡ (if mark then false else nat_eq (count_by is_counted hs) 1)
      only-by there = ap₂ (λ (m : Bool) (n : ℕ). not m && (nat_eq n 1 && has h (model t).live)) s.marked
          (same-count limit owners hs mark t s)
          ∙ ap (λ b. not mark && (nat_eq (count_by is_counted hs) 1 && b))
          (live-in (state t).handle (model t) (counted t s.legal) h ∙ same-lives limit owners hs mark t s h ∙ there)
          ∙ at mark (nat_eq (count_by is_counted hs) 1) where
            at : (m b : Bool) → (not m && (b && true)) ≡ (if m then false else b)
            at true b = refl
            at false true = refl
            at false false = refl

  module _ (owners : ℕ) (hs : List Standing) (mark : Bool) (t : Trace V) (s : Shape limit owners hs mark t)
      (room : length hs < owners) (h : ℕ) (there : get_or hs h has_ended ≡ lives) where
    abbrev count : ℕ
    count = count_by is_counted hs

    -- owner 0 has the handle alone, and there is an owner 0
    pub held-here : (state t).handle h ≡ newborn 0
    held-here = subst (λ (x : Standing). HeldAs x ((state t).handle h)) there (s.held h)

    usable : may_use ((state t).handle h) 0 ≡ true
    usable = ap (λ (x : HandleState). may_use x 0) held-here

    pub takable : may_take ((state t).handle h) 0 ≡ true
    takable = ap (λ (x : HandleState). may_take x 0) held-here

    pub within : 0 < (state t).owners
    within = let owned : (state t).owners ≡ owners = s.owned in omega (arith, room)

    full-by : is_full (model t) ≡ (not mark && nat_eq count limit)
    full-by = ap₂ (λ (m : Bool) (b : Bool). not m && b) s.marked
        (ap₂ nat_eq (same-count limit owners hs mark t s) (model_limit t s.legal ∙ s.limited))

    -- the first step of owner 0
    first-step : (x : Step V) (a : Answer V) (m : Model V) → takes_effect a ≡ true → owner_of x ≡ 0
        → permitted_by (state t) Idle x ≡ true → Deed (model t) (state t) x a m → Comes t (Then t x a) m
    first-step x a m effect by = makes t t (model t) (here t s.legal) x a m Idle effect
        (subst (λ o. o < (state t).owners) (sym by) within) (ap (state t).activity by ∙ s.busy 0)

    -- what leaves handles and owners as they were
    stays : (new : Bool) (n : Trace V) (m : Model V) (rs : List Report) → Comes t n m → m.mark ≡ new
        → m.births ≡ (model t).births → ((j : ℕ) → (state n).handle j ≡ (state t).handle j) → SameOwners t n
        → reports_of n ≡ reports_of t ++ rs → Goes owners hs new t rs
    stays new n m rs c is births same_handle same_activity reports = record {
      now = n;
      shape = keeps limit owners hs mark t s new n m c is births same_handle same_activity;
      few = let so_far : (model t).births ≡ length hs = s.births in omega arith;
      reports = reports;
    }

    born : (n : Trace V) (rs : List Report) → Comes t n (grown (model t))
        → (state n).handle ≡ put (state t).handle (model t).births (newborn 0) → SameOwners t n
        → reports_of n ≡ reports_of t ++ rs → Goes owners (hs ++ lives ∷ []) mark t rs
    born n rs c handles same_activity reports = record {
      now = n;
      shape = bears limit owners hs mark t s n c handles same_activity;
      few = let so_far : (model t).births ≡ length hs = s.births in
          let more : length (hs ++ lives ∷ []) ≡ length hs + 1 = length-append hs (lives ∷ []) in omega arith;
      reports = reports;
    }

    -- something in flight of owner 0 that is over again
    put-over : (c : _) (o : ℕ) → put (put (state t).activity 0 c) 0 Idle o ≡ (state t).activity o
    put-over c = put-all (put (state t).activity 0 c) 0 Idle (λ o z. z ≡ (state t).activity o) (sym (s.busy 0))
        (λ o other. ap (λ b. if b then c else (state t).activity o) other)

    put-idle : (o : ℕ) → put (state t).activity 0 Idle o ≡ (state t).activity o
    put-idle = put-all (state t).activity 0 Idle (λ o z. z ≡ (state t).activity o) (sym (s.busy 0)) (λ _ _. refl)

    -- what is only asked
    pub asked : Goes owners hs mark t ((made h asks, nothing) ∷ [])
    asked = stays mark _ _ _
        (first-step (Unique 0 h) (Is (is_only (model t) h)) (model t) refl refl usable (asks_unique 0 h))
        s.marked refl (λ _. refl) (λ _. refl) refl

    pub marked_now : Goes owners hs true t ((made h marks, nothing) ∷ [])
    marked_now = stays true _ _ _
        (first-step (Mark 0 h) Marked (record (model t) { mark = true }) refl refl usable (deed_marks 0 h))
        refl refl (λ _. refl) (λ _. refl) refl

    -- a read by which a handle is born
    pub read_bears : mark ≡ true → Goes owners (hs ++ lives ∷ []) mark t ((made h reads, a_handle) ∷ [])
    read_bears is = born (Then t (Clone 0 h) (Born (model t).births)) _
        (first-step (Clone 0 h) (Born (model t).births) (grown (model t)) refl refl usable
        (clone_bears 0 h (s.marked ∙ is) (full-by ∙ ap (λ b. not b && nat_eq count limit) is)))
        refl put-idle refl

    read : mark ≡ false → is_full (model t) ≡ false → Comes t (Then t (Clone 0 h) Pending) (model t)
    read is free = first-step (Clone 0 h) Pending (model t) refl refl usable (clone_reads 0 h (s.marked ∙ is) free)

    -- a read that comes to nothing
    pub read_fails : mark ≡ false → Goes owners hs mark t ((made h reads, nothing) ∷ [])
    read_fails is = at (is_full (model t)) refl where
      at : (b : Bool) → is_full (model t) ≡ b → Goes owners hs mark t ((made h reads, nothing) ∷ [])
      at true full = stays mark _ _ _ (first-step (Clone 0 h) Full (model t) refl refl usable (clone_full 0 h full))
          s.marked refl (λ _. refl) put-idle refl
      at false free = stays mark _ _ _
          (makes t (Then t (Clone 0 h) Pending) (model t) (read is free) (Quit 0) Quitted (model t)
          (Cloning h (length (model t).live)) refl within refl refl (quits 0))
          s.marked refl (λ _. refl) (put-over (Cloning h (length (model t).live))) (append-nil _)

    -- a raise that wins, right after its read
    pub raise_wins : (seen : ℕ) → seen < limit → (if mark then false else nat_eq count seen) ≡ true
        → Goes owners (hs ++ lives ∷ []) mark t ((made h reads, nothing) ∷ (made h (raises_from seen), a_handle) ∷ [])
    raise_wins seen low won =
        born (Then (Then t (Clone 0 h) Pending) (Raise 0) (Born (model t).births)) _
        (makes t (Then t (Clone 0 h) Pending) (model t) (read known.0 free) (Raise 0) (Born (model t).births)
        (grown (model t)) (Cloning h (length (model t).live)) refl within refl refl (raise_bears 0 settles free))
        refl (put-over (Cloning h (length (model t).live)))
        (append_assoc (reports_of t) ((made h reads, nothing) ∷ []) _
        ∙ ap (λ z. reports_of t ++ (made h reads, nothing) ∷ (made h (raises_from z), a_handle) ∷ [])
        (same-count limit owners hs mark t s ∙ known.1)) where
          parts : (b : Bool) → mark ≡ b → (if b then false else nat_eq count seen) ≡ true
              → (mark ≡ false) × (count ≡ seen)
          parts true e w = absurd (true≢false (sym w))
          parts false e w = (e, eqb-true count seen w)

          known : (mark ≡ false) × (count ≡ seen)
          known = parts mark refl won

          free : is_full (model t) ≡ false
          free = full-by ∙ ap (λ b. not b && nat_eq count limit) known.0
              ∙ ne_eqb count limit (λ e. let is : count ≡ seen = known.1 in absurd (omega (arith, low)))

          settles : raise_settles (model t) (length (model t).live) ≡ true
          settles = or_right (model t).mark _ (or_right (is_full (model t)) _ (nat_eq-same (length (model t).live)))

    -- a read for unique; one that finds the only handle is ended at once
    pub sole_read : Goes owners hs mark t
        ((made h reads_for_unique, if (if mark then false else nat_eq count 1) then whole_block 1 else a_handle) ∷ [])
    sole_read = at (if mark then false else nat_eq count 1) refl where
      only : is_only (model t) h ≡ (if mark then false else nat_eq count 1)
      only = only-by owners hs mark t s h (ap is_counted there)

      written : HandleState
      written = record ((state t).handle h) { access = Written }

      t1 : Trace V
      t1 = Then t (GetMut 0 h) Alone

      here-1 : (state t1).handle h ≡ record (newborn 0) { access = Written }
      here-1 = put-here (state t).handle h written
          ∙ ap (λ (x : HandleState). record x { access = Written }) held-here

      back : HandleState
      back = record ((state t1).handle h) { access = SharedAccess }

      as_before : (j : ℕ) → put (state t1).handle h back j ≡ (state t).handle j
      as_before = put-all (state t1).handle h back (λ j z. z ≡ (state t).handle j)
          (ap (λ (x : HandleState). record x { access = SharedAccess }) here-1 ∙ sym held-here)
          (λ j other. ap (λ b. if b then written else (state t).handle j) other)

      at : (b : Bool) → (if mark then false else nat_eq count 1) ≡ b
          → Goes owners hs mark t ((made h reads_for_unique, if b then whole_block 1 else a_handle) ∷ [])
      at true one = stays mark (Then t1 (EndWrite 0 h) Done) _ _
          (makes t t1 (model t)
          (first-step (GetMut 0 h) Alone (model t) refl refl takable (finds_alone 0 h (only ∙ one)))
          (EndWrite 0 h) Done (model t) Idle refl within (s.busy 0) (ap (λ (x : HandleState). is_writing x 0) here-1)
          (ends_write 0 h))
          s.marked refl as_before (λ _. refl) (append-nil _)
      at false more = stays mark _ _ _
          (first-step (GetMut 0 h) Shared (model t) refl refl takable (finds_shared 0 h (only ∙ more)))
          s.marked refl (λ _. refl) (λ _. refl) refl
