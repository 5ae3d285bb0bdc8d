-- The requests that arguments encode.
use Rattle.std.specs.Prelude.{◌≡◌, ℕ, ◌≤◌, List, [], ◌∷◌, codes, decimal}
use Rattle.counting_word.specs.CountingWord.{greatest_count}
use Rattle.scripts.specs.Number.{IsNumber}
use Rattle.scripts.specs.declared.arguments.Request.{Request}
use Rattle.scripts.specs.declared.arguments.Request.TheVariants.{Core, Table}

-- the words after the number of owners ask for the limit: without a word it is the greatest
abbrev pub AskLimit : List (List ℕ) → ℕ → Type 0
AskLimit [] limit = limit ≡ greatest_count
AskLimit (word ∷ []) limit = IsNumber word limit × (1 ≤ limit)
AskLimit (word ∷ other ∷ words) limit = ⊥

-- the words, without the program's own name, ask for the request
abbrev pub Asks : List (List ℕ) → Request → Type 0
Asks words (Core owners limit) =
    (others : List (List ℕ)) × (words ≡ codes "core" ∷ decimal owners ∷ others) × (1 ≤ owners)
    × (owners ≤ 1000)
    × AskLimit others limit
Asks words (Table slots) =
    (words ≡ codes "table" ∷ decimal slots ∷ []) × (slots ≤ 1000)

-- the words ask for nothing
abbrev pub AreWrong : List (List ℕ) → Type 0
AreWrong words = (request : Request) → ¬ (Asks words request)
