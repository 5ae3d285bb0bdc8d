-- The log of a block: what was done to its word, in order, and through which handle. Handles are numbered by birth,
-- from 0. Each entry is one atomic step, but for two kinds that take none.
use Rattle.std.specs.Prelude.{ℕ, List, [], ◌∷◌}
use Rattle.counting_word.specs.CountingWord.{marked_word}
use Rattle.counting_word.specs.Rights.{Right, nothing, a_handle}
use Rattle.counting_word.specs.WordSteps.{WordStep, right_by, word_by}

pub data EntryKind : Type 0 where
  -- one atomic step on the word
  atomic : (step : WordStep) → EntryKind
  -- no step: one more handle of a block that is known to be marked
  static_handle : EntryKind
  -- no step: the mark of a block that nobody shares yet
  static_birth : EntryKind

pub record Entry : Type 0 where
  pub handle : ℕ
  pub kind : EntryKind

-- an atomic step through this handle
abbrev pub made : ℕ → WordStep → Entry
made h step = record { handle = h; kind = atomic step }

-- what an entry leaves its maker with, and the word after it, by the word before it
abbrev pub entry_right : EntryKind → ℕ → Right
entry_right (atomic step) found = right_by step found
entry_right static_handle found = a_handle
entry_right static_birth found = nothing

abbrev pub word_after : EntryKind → ℕ → ℕ
word_after (atomic step) found = word_by step found
word_after static_handle found = found
word_after static_birth found = marked_word found

-- The word that entries leave, in order, from this one on; and from the word of a new block.
abbrev pub left_from : ℕ → List Entry → ℕ
left_from word [] = word
left_from word (e ∷ es) = left_from (word_after e.kind word) es

abbrev pub left_by : List Entry → ℕ
left_by log = left_from 1 log
