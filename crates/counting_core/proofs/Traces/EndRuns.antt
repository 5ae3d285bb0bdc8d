-- The end of a handle in a run: its read for drop by an owner of its own, and its lower.
use Rattle.counting_core.proofs.Names.{◌≡◌, ℕ, suc, ◌<◌, Bool, true, false, not, ◌&&◌, nat_eq, List, [], ◌∷◌, ◌++◌}
use Rattle.counting_core.proofs.Names.{length, length-set, append-nil, set, get_or, if◌then◌else◌, refl, ◌∙◌, ap, arith}
use Rattle.counting_core.proofs.Names.{ne_eqb, lt-ltb, and_from, or_left, count_by, born, nothing, to_lower}
use Rattle.counting_core.proofs.Names.{whole_block, reads_for_drop, lowers, made, Standing, lives, dropping, has_ended}
use Rattle.counting_core.proofs.Names.{is_counted, Activity, Idle, Dropping, Drop, Lower, Give, Answer, Pending, Ended}
use Rattle.counting_core.proofs.Names.{GivenUp, Done, Trace, Then, HandleState, newborn, put, may_take, permitted_by}
use Rattle.counting_core.proofs.Names.{Model, is_only, state, model, Report, reports_of, handle_in}
use Rattle.counting_core.proofs.Traces.Places.{put-here, put-other}
use Rattle.counting_core.proofs.Traces.HandleLists.{nat_eq-same}
use Rattle.counting_core.proofs.Traces.Deeds.{drop_reads, drop_ends, lower_ends, lower_gives_up, gives, shrunk}
use Rattle.counting_core.proofs.Traces.Shapes.{drop_by, Shape, Comes, here, makes, goes}
use Rattle.counting_core.proofs.Traces.HandleRuns.{Goes, only-by, held-here, takable, within}

module _ {V : Type 0} (limit owners : ℕ) (hs : List Standing) (mark : Bool) (t : Trace V)
    (s : Shape limit owners hs mark t) (room : length hs < owners) (h : ℕ) where
  abbrev m : Model V
  m = model t

  -- the handle goes on to another standing
  gets-standing : (x : Standing) (rs : List Report) (n : Trace V) → h < length hs
      → Shape limit owners (set hs h x) mark n → reports_of n ≡ reports_of t ++ rs
      → Goes limit owners (set hs h x) mark t rs
  gets-standing x rs n low shape reports = record {
    now = n;
    shape = shape;
    few = let so_far : (model t).births ≡ length hs = s.births in
        let same : length (set hs h x) ≡ length hs = length-set hs h x in omega arith;
    reports = reports;
  }

  free : h < length hs → suc h < (state t).owners
  free low = let owned : (state t).owners ≡ owners = s.owned in omega (arith, room)

  -- The read by which a handle ends, by an owner that has had nothing yet: it is given the handle.
  module _ (there : get_or hs h has_ended ≡ lives) where
    low : h < length hs
    low = born hs h lives refl there

    new-idle : (state t).activity (suc h) ≡ Idle
    new-idle = s.busy (suc h) ∙ ap (drop_by h) there

    abbrev given : HandleState
    given = record ((state t).handle h) { holder = suc h }

    abbrev t1 : Trace V
    t1 = Then t (Give 0 h (suc h)) Done

    gave : Comes t t1 m
    gave = makes t t m (here t s.legal) (Give 0 h (suc h)) Done m Idle refl
        (within limit owners hs mark t s room h there) (s.busy 0)
        (and_from _ _ (or_left (may_take ((state t).handle h) 0) _ (takable limit owners hs mark t s room h there))
        (and_from _ _ (lt-ltb (suc h) (state t).owners (free low)) (ap not (ne_eqb (suc h) 0 (λ e. omega arith)))))
        (gives 0 h (suc h))

    given-here : (state t1).handle h ≡ newborn (suc h)
    given-here = put-here (state t).handle h given
        ∙ ap (λ (x : HandleState). record x { holder = suc h }) (held-here limit owners hs mark t s room h there)

    may : permitted_by {V = V} (state t1) Idle (Drop (suc h) h) ≡ true
    may = or_left (may_take ((state t1).handle h) (suc h)) _ (ap (λ (x : HandleState). may_take x (suc h)) given-here
        ∙ ap (λ b. (b && true) && true) (nat_eq-same (suc h)))

    -- on a marked block that is all
    pub left_by_last : Goes limit owners (set hs h (if mark then has_ended else dropping)) mark t
        ((made h reads_for_drop, if mark then nothing else to_lower) ∷ [])
    left_by_last = at mark refl where
      at : (b : Bool) → mark ≡ b → Goes limit owners (set hs h (if b then has_ended else dropping)) mark t
          ((made h reads_for_drop, if b then nothing else to_lower) ∷ [])
      at true is = gets-standing has_ended _ (Then t1 (Drop (suc h) h) Ended) low
          (goes limit owners hs mark t s h has_ended low (Then t1 (Drop (suc h) h) Ended) (shrunk m h)
          (makes t t1 m gave (Drop (suc h) h) Ended (shrunk m h) Idle refl (free low) new-idle may
          (drop_ends (suc h) h (s.marked ∙ is))) refl refl
          (ap (λ (x : HandleState). x.lives)
          (put-here (state t1).handle h (record ((state t1).handle h) { lives = false })))
          (λ k other. put-other (state t1).handle h (record ((state t1).handle h) { lives = false }) k other
          ∙ put-other (state t).handle h given k other)
          new-idle (λ _ _. refl))
          (ap (λ (l : List Report). l ++ (made h reads_for_drop, nothing) ∷ []) (append-nil (reports_of t)))
      at false is = gets-standing dropping _ (Then t1 (Drop (suc h) h) Pending) low
          (goes limit owners hs mark t s h dropping low (Then t1 (Drop (suc h) h) Pending) m
          (makes t t1 m gave (Drop (suc h) h) Pending m Idle refl (free low) new-idle may
          (drop_reads (suc h) h (s.marked ∙ is))) refl refl
          (ap (λ (x : HandleState). x.lives) given-here)
          (put-other (state t).handle h given)
          (put-here (state t).activity (suc h) (Dropping h))
          (put-other (state t).activity (suc h) (Dropping h)))
          (ap (λ (l : List Report). l ++ (made h reads_for_drop, to_lower) ∷ []) (append-nil (reports_of t)))

  module _ (there : get_or hs h has_ended ≡ dropping) where
    begun : h < length hs
    begun = born hs h dropping refl there

    busy : (state t).activity (suc h) ≡ Dropping h
    busy = s.busy (suc h) ∙ ap (drop_by h) there

    only : is_only m h ≡ (if mark then false else nat_eq (count_by is_counted hs) 1)
    only = only-by limit owners hs mark t s h (ap is_counted there)

    abbrev gone : HandleState
    gone = record ((state t).handle h) { lives = false }

    over : (a : Answer V) → Comes t (Then t (Lower (suc h)) a) (shrunk m h)
        → (state (Then t (Lower (suc h)) a)).handle
        ≡ put (state t).handle (handle_in ((state t).activity (suc h)))
        (record ((state t).handle (handle_in ((state t).activity (suc h)))) { lives = false })
        → (state (Then t (Lower (suc h)) a)).activity ≡ put (state t).activity (suc h) Idle
        → Shape limit owners (set hs h has_ended) mark (Then t (Lower (suc h)) a)
    over a done handles doing = goes limit owners hs mark t s h has_ended begun (Then t (Lower (suc h)) a) (shrunk m h)
        done refl refl (ap (λ (x : HandleState). x.lives) (at h ∙ put-here (state t).handle h gone))
        (λ k other. at k ∙ put-other (state t).handle h gone k other)
        (ap (λ (f : ℕ → Activity). f (suc h)) doing ∙ put-here (state t).activity (suc h) Idle)
        (λ o other. ap (λ (f : ℕ → Activity). f o) doing ∙ put-other (state t).activity (suc h) Idle o other) where
          at : (k : ℕ) → (state (Then t (Lower (suc h)) a)).handle k ≡ put (state t).handle h gone k
          at k = ap (λ (f : ℕ → HandleState). f k) handles ∙ ap (λ (c : Activity). put (state t).handle (handle_in c)
              (record ((state t).handle (handle_in c)) { lives = false }) k) busy

    -- its lower, by the same owner
    pub lowered : Goes limit owners (set hs h has_ended) mark t
        ((
          made h lowers,
          if (if mark then false else nat_eq (count_by is_counted hs) 1) then whole_block 0
              else nothing,
        ) ∷ [])
    lowered = at (if mark then false else nat_eq (count_by is_counted hs) 1) refl where
      at : (b : Bool) → (if mark then false else nat_eq (count_by is_counted hs) 1) ≡ b
          → Goes limit owners (set hs h has_ended) mark t ((made h lowers, if b then whole_block 0 else nothing) ∷ [])
      at true one = gets-standing has_ended _ (Then t (Lower (suc h)) (GivenUp m.value)) begun
          (over (GivenUp m.value) (makes t t m (here t s.legal) (Lower (suc h)) (GivenUp m.value) (shrunk m h)
          (Dropping h) refl (free begun) busy refl (lower_gives_up (suc h) h busy (only ∙ one))) refl refl)
          (ap (λ (c : Activity). reports_of t ++ (made (handle_in c) lowers, whole_block 0) ∷ []) busy)
      at false more = gets-standing has_ended _ (Then t (Lower (suc h)) Ended) begun
          (over Ended (makes t t m (here t s.legal) (Lower (suc h)) Ended (shrunk m h)
          (Dropping h) refl (free begun) busy refl (lower_ends (suc h) h busy (only ∙ more))) refl refl)
          (ap (λ (c : Activity). reports_of t ++ (made (handle_in c) lowers, nothing) ∷ []) busy)
