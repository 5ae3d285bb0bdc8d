-- Facts about the word that the last entry of a log found. Each says that the log is a run, which ends with that
-- entry.
use Rattle.std.specs.Prelude.{◌≡◌, ◌≢◌, ◌⊎◌, ℕ, Bool, true, false, List, [], Contains}
use Rattle.counting_word.specs.CountingWord.{is_marked_word, is_one_handle}
use Rattle.counting_word.specs.Plans.{clone_plan}
use Rattle.counting_word.specs.declared.ClonePlan.TheVariants.{Full}
use Rattle.counting_word.specs.WordSteps.{WordStep, raises_from, reads_for_drop, lowers}
use Rattle.counting_word.specs.Logs.{Entry, made}
use Rattle.counting_word.specs.Tallies.{tally_of, Adds}

-- On a block of this limit the last entry found this word.
abbrev pub Found : ℕ → ℕ → List Entry → Type 0
Found limit word log = (old : List Entry) × (e : Entry) × Adds limit old e word log

-- a read for a clone through this handle found the word, which had no mark
abbrev pub HasFound : ℕ → ℕ → List Entry → Type 0
HasFound n word log = Contains (tally_of log).found (n, word)

-- It found a word by which the block is full.
abbrev pub FoundFull : ℕ → List Entry → Type 0
FoundFull limit log = (word : ℕ) × Found limit word log × (clone_plan word limit ≡ Full)

-- It is a raise through this handle, which found another word than the one that it started from.
abbrev pub LostRaise : ℕ → ℕ → List Entry → Type 0
LostRaise limit n log =
    (old : List Entry) × (seen : ℕ) × (word : ℕ) × Adds limit old (made n (raises_from seen)) word log × (word ≢ seen)

-- It is this step, made through this handle, and the answer is what the test says of the word that it found.
abbrev pub Answers : ℕ → ℕ → WordStep → (ℕ → Bool) → Bool → List Entry → Type 0
Answers limit n s test answer log = (word : ℕ) × Adds limit [] (made n s) word log × (answer ≡ test word)

-- The drop of this handle is over: it read the mark, or its lower left others.
abbrev pub DropOver : ℕ → ℕ → List Entry → Type 0
DropOver limit n log =
    Answers limit n reads_for_drop is_marked_word true log ⊎ Answers limit n lowers is_one_handle false log
