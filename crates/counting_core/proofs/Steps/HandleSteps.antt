-- By its answer and its word a step on the word is the atomic step of a handle.
use Rattle.counting_core.proofs.Names.{StepsAreThoseOfHandles, ◌≡◌, ◌+◌, Bool, true, false, if◌then◌else◌, nat_eq}
use Rattle.counting_core.proofs.Names.{length, refl, is_marked_word, is_one_handle, count_of, a_handle, nothing}
use Rattle.counting_core.proofs.Names.{StaticClone, FullClone, RaiseClone, StaticDrop, LowerDrop, Clone, Raise, Drop}
use Rattle.counting_core.proofs.Names.{Lower, Mark, Unique, Static, GetMut, IntoUnique, Born, Ended, GivenUp, Alone}
use Rattle.counting_core.proofs.Names.{Sole, Shared, seen_in, activity, cloned, dropped, Step, Answer, right_of}

module _ {V : Type 0} where
  -- what an answer gives that hangs on one test
  by_test : {A : Type 0} (s : Step V) (answer : A → Answer V) (x y : A) (b : Bool)
      → right_of s (answer (if b then x else y)) ≡ (if b then right_of s (answer x) else right_of s (answer y))
  by_test s answer x y true = refl
  by_test s answer x y false = refl

  pub steps_of_handles : StepsAreThoseOfHandles V
  steps_of_handles core (Clone o h) = (
    at (is_marked_word core.word) (nat_eq (count_of core.word) core.limit),
    λ _. refl,
  ) where
    at : (m full : Bool) → right_of {V = V} (Clone o h)
        (cloned core (if m then StaticClone else (if full then FullClone else RaiseClone (core.word + 1)))) ≡
        (if m then a_handle else nothing)
    at true full = refl
    at false true = refl
    at false false = refl
  steps_of_handles core (Raise o) = (
    at (nat_eq core.word (seen_in (activity core o))) (is_marked_word core.word)
        (nat_eq (count_of core.word) core.limit),
    λ _. refl,
  ) where
    at : (won m full : Bool) → right_of {V = V} (Raise o) (if won then Born (length core.handles) else cloned core
        (if m then StaticClone else (if full then FullClone else RaiseClone (core.word + 1))))
        ≡ (if won then a_handle else (if m then a_handle else nothing))
    at true m full = refl
    at false true full = refl
    at false false true = refl
    at false false false = refl
  steps_of_handles core (Drop o h) =
      (by_test (Drop o h) dropped StaticDrop LowerDrop (is_marked_word core.word), λ _. refl)
  steps_of_handles core (Lower o) =
      (by_test (Lower o) (λ a. a) (GivenUp core.value) Ended (is_one_handle core.word), λ _. refl)
  steps_of_handles core (GetMut o h) =
      (by_test (GetMut o h) (λ a. a) Alone Shared (is_one_handle core.word), λ _. refl)
  steps_of_handles core (IntoUnique o h) =
      (by_test (IntoUnique o h) (λ a. a) Sole Shared (is_one_handle core.word), λ _. refl)
  steps_of_handles core (Mark o h) = (refl, λ _. refl)
  steps_of_handles core (Unique o h) = (refl, λ _. refl)
  steps_of_handles core (Static o h) = (refl, λ _. refl)
  steps_of_handles core s = refl
