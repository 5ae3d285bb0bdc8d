-- The numbers of arguments and scripts.
use Rattle.std.specs.Prelude.{◌≡◌, ℕ, ◌^◌, ◌<◌, List, ◌++◌, decimal, slice_index}
use Rattle.std.specs.Int.{IsInRange}

-- the word writes the number in decimal, and the number is at most 4294967295
abbrev pub IsNumber : List ℕ → ℕ → Type 0
IsNumber word number = (word ≡ decimal number) × (number < 2 ^ 32)

-- the text is such a number, and then this rest, which begins with no digit
pub record BeginsWith (text : List ℕ) (number : ℕ) (rest : List ℕ) : Type 0 where
  pub written : text ≡ decimal number ++ rest
  pub in_range : number < 2 ^ 32
  pub ends : ¬ (IsInRange 48 57 (slice_index rest 0))
