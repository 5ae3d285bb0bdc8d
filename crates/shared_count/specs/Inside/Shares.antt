-- What a seat knows: shares of passes, each with the history that its pass has seen.
use Rattle.std.specs.Prelude.{ℕ, Bool, true, false, nat_eq, if◌then◌else◌, List, [], ◌∷◌, ◌++◌, map, sum_by, count_by}
use Rattle.std.specs.List.{range_with_len}
use Rattle.shared_count.specs.History.{Event}
pub use Rattle.shared_count.specs.declared.ghost_types.Known.{Known}
pub use Rattle.shared_count.specs.declared.ghost_types.Part.{Part}
pub use Rattle.shared_count.specs.declared.ghost_types.Part.TheVariants.{Half, Whole, InDrop}
pub use Rattle.shared_count.specs.declared.ghost_types.Share.{Share}

abbrev pub known : ℕ → ℕ → List Event → Known
known n p h = record { passes = n; name = p; seen = h }

-- the pass x once it has seen h
abbrev pub seeing : Known → List Event → Known
seeing x h = known x.passes x.name h

abbrev pub share : Known → Part → Share
share x part = record { known = x; part = part }

-- k new passes, whole and with the names from p on, of a count that was opened with n passes
abbrev pub newcomers : ℕ → ℕ → ℕ → List Share
newcomers n p k = map (λ name. share (known n name []) Whole) (range_with_len p k)

-- a pass has two halves
abbrev pub halves_in : Part → ℕ
halves_in Half = 1
halves_in Whole = 2
halves_in InDrop = 2

-- how many halves of the pass p these shares have
abbrev pub halves : ℕ → List Share → ℕ
halves p shares = sum_by (λ s. if nat_eq p s.known.name then halves_in s.part else 0) shares

abbrev pub is_in_drop : Part → Bool
is_in_drop InDrop = true
is_in_drop _ = false

-- how many of these passes have begun an end but not yet lowered the word
abbrev pub drops : List Share → ℕ
drops shares = count_by (λ s. is_in_drop s.part) shares

-- a split by which the first share moves to the new seat
abbrev pub all_but_first : List Share → List Share
all_but_first [] = []
all_but_first (s ∷ ss) = ss

abbrev pub first_alone : List Share → List Share
first_alone [] = []
first_alone (s ∷ ss) = s ∷ []

-- a split by which both seats get one half of each share
abbrev pub as_halves : List Share → List Share
as_halves shares = map (λ s. share s.known Half) shares

-- a join by which a seat takes in a note
abbrev pub with_note : List Share → List Share → List Share
with_note shares note = note ++ shares

-- a join by which a pass takes its own note back, and is whole again
abbrev pub as_in_note : List Share → List Share → List Share
as_in_note shares note = map (λ s. share s.known Whole) note
