-- How the history that a pass has seen grows.
use Rattle.std.specs.Prelude.{◌≡◌, ℕ, ◌<◌, Bool, true, false, List, [], ◌∷◌, ◌++◌, length, IsTrue}
use Rattle.std.specs.List.{list_any}
use Rattle.counting_word.specs.CountingWord.{greatest_count}
use Rattle.shared_count.specs.History.{Born, Ended, Call, Clone, End, Event, CountState, left_by, calls_of}

-- the new history is the old one and then calls of others than p
pub record OthersExtend (p : ℕ) (old new : List Event) : Type 0 where
  pub added : List Event
  pub begins : new ≡ old ++ added
  pub no_own : calls_of p added ≡ []

abbrev pub event : ℕ → Call → Event
event p c = record { caller = p; call = c }

-- the new history is the old one, then calls of others than p, then this call of p
pub record CallExtends (p : ℕ) (c : Call) (old new : List Event) : Type 0 where
  pub before : List Event
  pub others : OthersExtend p old before
  pub ends : new ≡ before ++ event p c ∷ []

abbrev pub is_born_or_ended : Call → Bool
is_born_or_ended (Clone Born) = true
is_born_or_ended (End Ended) = true
is_born_or_ended _ = false

-- whether some call among these was a clone that was born or an end that was not the last
abbrev pub has_born_or_ended : List Event → Bool
has_born_or_ended events = list_any (λ e. is_born_or_ended e.call) events

-- unmarked, and below the limit
abbrev pub HasRoom : CountState → Type 0
HasRoom s = (s.mark ≡ false) × (length s.owners < greatest_count)

-- the new history adds calls of others than p, some of which changed the number of handles, and leaves room for a clone
pub record OvertakersExtend (n p : ℕ) (old new : List Event) : Type 0 where
  pub others : OthersExtend p old new
  pub changed : IsTrue (has_born_or_ended others.added)
  pub room : HasRoom (left_by n new)
