-- The counting word of a block: bit 63 is the mark, bits 0 to 62 are the count.
use Rattle.std.specs.Prelude.{◌≡◌, ℕ, ◌+◌, ◌-◌, ◌^◌, ◌%◌, ◌≤◌, Bool, true, false, nat_le}
use Rattle.std.specs.Prelude.{nat_eq, if◌then◌else◌}

-- bit 63
abbrev pub mark_bit : ℕ
mark_bit = 2 ^ 63

abbrev pub greatest_count : ℕ
greatest_count = mark_bit - 1

-- a limit that a block may have
abbrev pub IsLimit : ℕ → Type 0
IsLimit limit = (1 ≤ limit) × (limit ≤ greatest_count)

abbrev pub is_marked_word : ℕ → Bool
is_marked_word word = nat_le mark_bit word

abbrev pub count_of : ℕ → ℕ
count_of word = word % mark_bit

-- an unmarked count is not above the limit
abbrev pub IsWithin : ℕ → ℕ → Type 0
IsWithin word limit = is_marked_word word ≡ false → count_of word ≤ limit

-- no mark, and a count of one
abbrev pub is_one_handle : ℕ → Bool
is_one_handle word = nat_eq word 1

-- the word with its mark set
abbrev pub marked_word : ℕ → ℕ
marked_word word = if is_marked_word word then word else word + mark_bit

-- What a word stands for. It has the block's mark. Without the mark its count is exactly the number of live
-- handles, those whose drop is in flight included. With the mark its count means nothing to a reader, but it
-- covers the drops in flight, which are still to lower it.
pub record StandsFor (word : ℕ) (mark : Bool) (live in_drop : ℕ) : Type 0 where
  pub same_mark : is_marked_word word ≡ mark
  pub counts_live : mark ≡ false → count_of word ≡ live
  pub covers_drops : mark ≡ true → in_drop ≤ count_of word
