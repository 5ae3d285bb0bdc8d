-- The statements of the lemmas about every legal trace, and about every core that represents one.
use Rattle.std.specs.Prelude.{◌≡◌, ℕ, ◌≤◌, Bool, true, false, not, ◌&&◌, ◌||◌, ◌⊎◌, ◌↔◌, nat_eq, if◌then◌else◌, List}
use Rattle.std.specs.Prelude.{[], ◌∷◌, length, count_by}
use Rattle.counting_word.specs.CountingWord.{is_marked_word, count_of}
use Rattle.counting_core.specs.declared.step.Answer.{Answer}
use Rattle.counting_core.specs.declared.step.Answer.TheVariants.{Born, Full, Pending, Ended, GivenUp, Marked, Memory}
use Rattle.counting_core.specs.declared.step.Answer.TheVariants.{Barred}
use Rattle.counting_core.specs.declared.step.Step.{Step}
use Rattle.counting_core.specs.declared.step.Step.TheVariants.{Clone, Raise, Drop, Lower}
use Rattle.counting_core.specs.State.{HandleState}
use Rattle.counting_core.specs.Permitted.{is_sole, owner_of, permitted}
use Rattle.counting_core.specs.Trace.{Trace, Open, Then, limit_of}
use Rattle.counting_core.specs.Legal.{expected, IsLegal, state, model}
use Rattle.counting_core.specs.Represents.{CoreState, Represents}

module _ {V : Type 0} where
  abbrev pub live_handles : Trace V → List ℕ
  live_handles t = (model t).live

  abbrev pub has_mark : Trace V → Bool
  has_mark t = (model t).mark

  abbrev pub is_end : Answer V → Bool
  is_end Ended = true
  is_end (GivenUp v) = true
  is_end _ = false

  abbrev pub is_given_up : Answer V → Bool
  is_given_up (GivenUp v) = true
  is_given_up _ = false

  abbrev pub is_marked_answer : Answer V → Bool
  is_marked_answer Marked = true
  is_marked_answer _ = false

  abbrev pub some_answer : (Answer V → Bool) → Trace V → Bool
  some_answer is_it (Open v n limit) = false
  some_answer is_it (Then t s a) = is_it a || some_answer is_it t

  -- a step that reads the word for a clone
  abbrev pub is_clone_read : Step V → Bool
  is_clone_read (Clone o h) = true
  is_clone_read (Raise o) = true
  is_clone_read _ = false

abbrev pub EachStepHasOneAnswer : Type 0 → Type 0
EachStepHasOneAnswer V =
    (t : Trace V) (s : Step V) → IsLegal t
    → IsLegal (Then t s (expected t s)) × ((a : Answer V) → IsLegal (Then t s a) → (a ≡ expected t s) ⊎ (a ≡ Memory))

abbrev pub BarredExactlyIfNotPermitted : Type 0 → Type 0
BarredExactlyIfNotPermitted V =
    (t : Trace V) (s : Step V) (a : Answer V) → IsLegal (Then t s a)
    → (a ≡ Barred) ↔ (permitted (state t) s ≡ false)

abbrev pub LiveHandlesLive : Type 0 → Type 0
LiveHandlesLive V =
    (t : Trace V) → IsLegal t → (h : ℕ)
    → count_by (nat_eq h) (live_handles t) ≡ (if ((state t).handle h).lives then 1 else 0)

abbrev pub CountIsTheNumberOfLiveHandles : Type 0 → Type 0
CountIsTheNumberOfLiveHandles V =
    (core : CoreState V) (t : Trace V) → Represents core t → is_marked_word core.word ≡ false
    → (count_of core.word ≡ length (live_handles t))
    × (count_of core.word ≡ count_by (λ (handle : HandleState). handle.lives) core.handles)

abbrev pub NoLowerWraps : Type 0 → Type 0
NoLowerWraps V =
    (core : CoreState V) (t : Trace V) (o : ℕ) → Represents core t → permitted {V = V} (state t) (Lower o)
    ≡ true
    → 1 ≤ count_of core.word

abbrev pub NoCountPassesLimit : Type 0 → Type 0
NoCountPassesLimit V = (t : Trace V) → IsLegal t → has_mark t ≡ false → length (live_handles t) ≤ limit_of t

abbrev pub MarkedExactlyIfAnswered : Type 0 → Type 0
MarkedExactlyIfAnswered V = (t : Trace V) → IsLegal t → has_mark t ≡ some_answer is_marked_answer t

abbrev pub MarkedBlockKeepsItsValue : Type 0 → Type 0
MarkedBlockKeepsItsValue V =
    (t : Trace V) (s : Step V) (a : Answer V) → IsLegal (Then t s a) → has_mark t ≡ true
    → (has_mark (Then t s a) ≡ true) × (is_given_up a ≡ false)

abbrev pub GivenUpByLastEnd : Type 0 → Type 0
GivenUpByLastEnd V =
    (t : Trace V) (s : Step V) (a : Answer V) → IsLegal (Then t s a) → is_end a ≡ true
    → a ≡ (if not (has_mark t) && nat_eq (length (live_handles (Then t s a))) 0
    then GivenUp (model t).value else Ended)

abbrev pub GivenUpOnce : Type 0 → Type 0
GivenUpOnce V =
    (t : Trace V) (s : Step V) (a : Answer V) → IsLegal (Then t s a)
    → some_answer is_given_up t ≡ true → a ≡ Barred

abbrev pub FullExactlyAtLimit : Type 0 → Type 0
FullExactlyAtLimit V =
    (t : Trace V) (s : Step V) (a : Answer V) → IsLegal (Then t s a)
    → (a ≡ Full) ↔ ((permitted (state t) s ≡ true) × (is_clone_read s ≡ true)
    × (has_mark t ≡ false) × (length (live_handles t) ≡ limit_of t))

abbrev pub BornStraightAfterRead : Type 0 → Type 0
BornStraightAfterRead V =
    (t : Trace V) (s : Step V) (a : Answer V) → IsLegal (Then (Then t s Pending) (Raise (owner_of s)) a)
    → is_clone_read s ≡ true → (a ≡ Born (model t).births) ⊎ (a ≡ Memory)

-- a live handle that is sole
pub record IsSole {V : Type 0} (t : Trace V) (h : ℕ) : Type 0 where
  pub lives : ((state t).handle h).lives ≡ true
  pub sole : is_sole ((state t).handle h).access ≡ true

abbrev pub SoleHandleIsTheOnlyOne : Type 0 → Type 0
SoleHandleIsTheOnlyOne V =
    (t : Trace V) (h : ℕ) → IsLegal t → IsSole t h
    → (live_handles t ≡ h ∷ []) × (has_mark t ≡ false) × (((state t).handle h).borrowers ≡ [])

abbrev pub SoleDropGivesUp : Type 0 → Type 0
SoleDropGivesUp V =
    (t : Trace V) (o h : ℕ) → IsLegal t → IsSole t h
    → (permitted {V = V} (state t) (Drop o h) ≡ true → expected t (Drop o h) ≡ Pending)
    × (permitted {V = V} (state t) (Lower o) ≡ true → expected t (Lower o) ≡ GivenUp (model t).value)
