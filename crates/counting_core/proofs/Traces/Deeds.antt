-- Each way in which a permitted step is answered, unless memory is refused.
use Rattle.counting_core.proofs.Names.{◌≡◌, ℕ, ◌+◌, Bool, true, false, not, ◌&&◌, ◌||◌, nat_eq, [], ◌∷◌, ◌++◌, length}
use Rattle.counting_core.proofs.Names.{if◌then◌else◌, refl, sym, ◌∙◌, ap, subst, true≢false, list_any, cond_both}
use Rattle.counting_core.proofs.Names.{or_parts, or_from, or_left, or_right, Dropping, Step, Clone, Raise, Quit, Drop}
use Rattle.counting_core.proofs.Names.{Lower, Mark, Unique, Static, GetMut, Write, EndWrite, IntoUnique, Share, Load}
use Rattle.counting_core.proofs.Names.{Lend, Return, Give, Answer, Born, Full, Pending, Ended, GivenUp, Marked, Is}
use Rattle.counting_core.proofs.Names.{Alone, Sole, Shared, Done, Value, Barred, Quitted, State, owner_of, handle_in}
use Rattle.counting_core.proofs.Names.{permitted_by, Model, Clones, Ends, is_full, is_only, without, Move, Visible}
use Rattle.counting_core.proofs.Names.{Internal, raise_settles, move, outcome, seen_in}
use Rattle.counting_core.proofs.Names.{Activity, Idle, Cloning, after, put}
use Rattle.counting_core.proofs.Traces.Activities.{begins, lowering}
use Rattle.counting_core.proofs.Traces.Places.{put-same}

module _ {V : Type 0} where
  -- the model with one more live handle, and without one
  abbrev pub grown : Model V → Model V
  grown m = record m { live = m.live ++ m.births ∷ []; births = m.births + 1 }

  abbrev pub shrunk : Model V → ℕ → Model V
  shrunk m h = record m { live = without h m.live }

  -- a step changes no number of owners
  pub owners-kept : (sees : ℕ) (u : State) (s : Step V) (a : Answer V) → (after sees u s a).owners ≡ u.owners
  owners-kept sees u s (Born n) = refl
  owners-kept sees u (Clone o h) a = refl
  owners-kept sees u s a = refl

-- A step, its answer and the model after it.
module _ {V : Type 0} (r : Model V) (u : State) where
  pub data Deed : Step V → Answer V → Model V → Type 0 where
    clone_reads : (o h : ℕ) → r.mark ≡ false → is_full r ≡ false → Deed (Clone o h)
        Pending r
    clone_bears : (o h : ℕ) → r.mark ≡ true → is_full r ≡ false
        → Deed (Clone o h) (Born r.births) (grown r)
    clone_full : (o h : ℕ) → is_full r ≡ true → Deed (Clone o h) Full r
    raise_loses : (o : ℕ) → raise_settles r (seen_in (u.activity o)) ≡ false → Deed (Raise o) Pending r
    raise_bears : (o : ℕ) → raise_settles r (seen_in (u.activity o)) ≡ true → is_full r ≡ false
        → Deed (Raise o) (Born r.births) (grown r)
    raise_full : (o : ℕ) → is_full r ≡ true → Deed (Raise o) Full r
    quits : (o : ℕ) → Deed (Quit o) Quitted r
    drop_reads : (o h : ℕ) → r.mark ≡ false → Deed (Drop o h) Pending r
    drop_ends : (o h : ℕ) → r.mark ≡ true → Deed (Drop o h) Ended (shrunk r h)
    lower_ends : (o h : ℕ) → u.activity o ≡ Dropping h → is_only r h ≡ false
        → Deed (Lower o) Ended (shrunk r h)
    lower_gives_up : (o h : ℕ) → u.activity o ≡ Dropping h → is_only r h ≡ true
        → Deed (Lower o) (GivenUp r.value) (shrunk r h)
    marks : (o h : ℕ) → Deed (Mark o h) Marked (record r { mark = true })
    asks_unique : (o h : ℕ) → Deed (Unique o h) (Is (is_only r h)) r
    asks_static : (o h : ℕ) → Deed (Static o h) (Is r.mark) r
    finds_alone : (o h : ℕ) → is_only r h ≡ true → Deed (GetMut o h) Alone r
    finds_shared : (o h : ℕ) → is_only r h ≡ false → Deed (GetMut o h) Shared r
    writes : (o h : ℕ) (v : V) → Deed (Write o h v) Done (record r { value = v })
    ends_write : (o h : ℕ) → Deed (EndWrite o h) Done r
    becomes_sole : (o h : ℕ) → is_only r h ≡ true → Deed (IntoUnique o h) Sole r
    stays_shared : (o h : ℕ) → is_only r h ≡ false → Deed (IntoUnique o h) Shared r
    shares : (o h : ℕ) → Deed (Share o h) Done r
    loads : (o h : ℕ) → Deed (Load o h) (Value r.value) r
    lends : (o h to : ℕ) → Deed (Lend o h to) Done r
    returns : (o h : ℕ) → Deed (Return o h) Done r
    gives : (o h to : ℕ) → Deed (Give o h to) Done r

  -- what its owner goes on to
  abbrev pub next : {s : Step V} {a : Answer V} {m : Model V} → Deed s a m → Activity
  next (clone_reads o h _ _) = Cloning h (length r.live)
  next (raise_loses o _) = Cloning (handle_in (u.activity o)) (length r.live)
  next (drop_reads o h _) = Dropping h
  next _ = Idle

  pub goes_on : {s : Step V} {a : Answer V} {m : Model V} (d : Deed s a m)
      → permitted_by u (u.activity (owner_of s)) s ≡ true
      → (after (length r.live) u s a).activity ≡ put u.activity (owner_of s) (next d)
  goes_on (clone_reads o h _ _) may = refl
  goes_on (clone_bears o h _ _) may = refl
  goes_on (clone_full o h _) may = refl
  goes_on (raise_loses o _) may = refl
  goes_on (raise_bears o _ _) may = refl
  goes_on (raise_full o _) may = refl
  goes_on (quits o) may = refl
  goes_on (drop_reads o h _) may = refl
  goes_on (lower_ends o h _ _) may = refl
  goes_on (lower_gives_up o h _ _) may = refl
  goes_on {s} _ may = sym (put-same u.activity (owner_of s) Idle (begins u s _ may refl).0)

  abbrev Does : Step V → Move V → Type 0
  Does s x = Deed s (outcome r x).0 (outcome r x).1

  abbrev is_only_by : Bool → ℕ → Bool
  is_only_by mark h = not mark && (nat_eq (length r.live) 1 && list_any (nat_eq h) r.live)

  -- a clone that is settled is a birth, or it is refused
  settled : (s : Step V) → (is_full r ≡ false → Deed s (Born r.births) (grown r))
      → (is_full r ≡ true → Deed s Full r) → Does s (Visible Clones)
  settled s bears full =
      cond_both {A = Answer V × Model V} (is_full r) (Full, r)
      (Born r.births, grown r) (λ x. Deed s x.0 x.1) full bears

  clone_deed : (o h : ℕ) → r.mark || is_full r ≡ true → Does (Clone o h) (Visible Clones)
  clone_deed o h e = settled (Clone o h) (λ room. clone_bears o h (marked r.mark (is_full r) e room)
      room) (clone_full o h) where
        marked : (m full : Bool) → m || full ≡ true → full ≡ false → m ≡ true
        marked true full e room = refl
        marked false full e room = absurd (true≢false (sym e ∙ room))

  -- each permitted step is one of these
  pub deed_of : (s : Step V) → permitted_by u (u.activity (owner_of s)) s ≡ true → Does s (move r u s)
  deed_of (Clone o h) may =
      cond_both (r.mark || is_full r) (Visible Clones) (Internal Pending) (Does (Clone o h))
      (clone_deed o h)
      (λ e. let none : (r.mark ≡ false) × (is_full r ≡ false)
      = or_parts r.mark (is_full r) e in clone_reads o h none.0 none.1)
  deed_of (Raise o) may =
      cond_both (raise_settles r (seen_in (u.activity o))) (Visible Clones) (Internal Pending) (Does (Raise o))
      (λ e. settled (Raise o) (raise_bears o e) (raise_full o)) (raise_loses o)
  deed_of (Quit o) may = quits o
  deed_of (Drop o h) may =
      cond_both r.mark (Visible (Ends h)) (Internal Pending) (Does (Drop o h))
      (λ e. subst (λ b. Deed (Drop o h) (if b then GivenUp r.value else Ended) (shrunk r h))
      (sym (ap (λ b. is_only_by b h) e)) (drop_ends o h e))
      (drop_reads o h)
  deed_of (Lower o) may =
      let h : ℕ = handle_in (u.activity o) in
      let e : u.activity o ≡ Dropping h = lowering V u o (u.activity o) may in
      cond_both (is_only r h) (GivenUp r.value) Ended (λ a. Deed (Lower o) a (shrunk r h)) (lower_gives_up o h e)
      (lower_ends o h e)
  deed_of (Mark o h) may = marks o h
  deed_of (Unique o h) may = asks_unique o h
  deed_of (Static o h) may = asks_static o h
  deed_of (GetMut o h) may =
      cond_both (is_only r h) Alone Shared (λ a. Deed (GetMut o h) a r) (finds_alone o h)
      (finds_shared o h)
  deed_of (Write o h v) may = writes o h v
  deed_of (EndWrite o h) may = ends_write o h
  deed_of (IntoUnique o h) may =
      cond_both (is_only r h) Sole Shared (λ a. Deed (IntoUnique o h) a r) (becomes_sole o h)
      (stays_shared o h)
  deed_of (Share o h) may = shares o h
  deed_of (Load o h) may = loads o h
  deed_of (Lend o h to) may = lends o h to
  deed_of (Return o h) may = returns o h
  deed_of (Give o h to) may = gives o h to

  -- outcomes, by what decides them
  abbrev birth_by : Bool → Answer V × Model V
  birth_by full = if full then (Full, r) else (Born r.births, grown r)

  abbrev end_by : ℕ → Bool → Answer V × Model V
  end_by h only = (if only then GivenUp r.value else Ended, shrunk r h)

  abbrev get_mut_by : Bool → Answer V × Model V
  get_mut_by only = (if only then Alone else Shared, r)

  abbrev into_unique_by : Bool → Answer V × Model V
  into_unique_by only = (if only then Sole else Shared, r)

  abbrev clone_by : Bool → Answer V × Model V
  clone_by settles = outcome r (if settles then Visible Clones else Internal Pending)

  -- and each of these is the outcome of its step
  pub outcome_is : (s : Step V) (a : Answer V) (m : Model V) → Deed s a m → outcome r (move r u s)
      ≡ (a, m)
  outcome_is s a m (clone_reads o h mark room) = ap clone_by (or_from r.mark (is_full r) mark room)
  outcome_is s a m (clone_bears o h mark room) = ap clone_by (or_left r.mark (is_full r) mark)
      ∙ ap birth_by room
  outcome_is s a m (clone_full o h full) = ap clone_by (or_right r.mark (is_full r) full)
      ∙ ap birth_by full
  outcome_is s a m (raise_loses o lost) = ap clone_by lost
  outcome_is s a m (raise_bears o settles room) = ap clone_by settles ∙ ap birth_by room
  outcome_is s a m (raise_full o full) = ap clone_by (or_right r.mark _ (or_left (is_full r) _ full))
      ∙ ap birth_by full
  outcome_is s a m (drop_reads o h mark) = ap (λ b. outcome r (if b then Visible (Ends h)
      else Internal Pending)) mark
  outcome_is s a m (drop_ends o h mark) = ap (λ b. outcome r (if b then Visible (Ends h)
      else Internal Pending)) mark ∙ ap (λ b. end_by h (is_only_by b h)) mark
  outcome_is s a m (lower_ends o h e more) = ap (λ c. outcome r (Visible (Ends (handle_in c))))
      e ∙ ap (end_by h) more
  outcome_is s a m (lower_gives_up o h e last) = ap (λ c. outcome r (Visible (Ends (handle_in c))))
      e ∙ ap (end_by h) last
  outcome_is s a m (finds_alone o h only) = ap get_mut_by only
  outcome_is s a m (finds_shared o h others) = ap get_mut_by others
  outcome_is s a m (becomes_sole o h only) = ap into_unique_by only
  outcome_is s a m (stays_shared o h others) = ap into_unique_by others
  outcome_is s a m _ = refl

  -- no permitted step is answered Barred
  pub not_barred : (s : Step V) (m : Model V) → Deed s Barred m → ⊥
  not_barred s m d = elim d [ ]

  -- a step that is answered Pending is no event
  pub pending_stays : (s : Step V) (m : Model V) → Deed s Pending m → m ≡ r
  pending_stays s m (clone_reads o h e f) = refl
  pending_stays s m (raise_loses o e) = refl
  pending_stays s m (drop_reads o h e) = refl

-- what holds of the model and the state before each deed, its step, its answer and the model after it
abbrev pub EachDeed : (V : Type 0) → (Model V → State → Step V → Answer V → Model V → Type 0) → Type 0
EachDeed V Holds =
    (r : Model V) (u : State) (s : Step V) (a : Answer V) (m : Model V) → Deed r u s a m → Holds r u s a m
