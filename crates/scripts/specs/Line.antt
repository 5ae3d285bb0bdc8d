-- How the lines of scripts are written: a word, and at most three numbers.
use Rattle.std.specs.Prelude.{◌≡◌, ℕ, ◌==◌, ◌^◌, ◌<◌, ◌≤◌, List, [], ◌∷◌, length, All, map, decimal}
use Rattle.std.specs.Prelude.{Option, Some, None}
use Rattle.std.specs.List.{slice_split}

-- the byte of a space
abbrev pub space : ℕ
space = 32

-- the parts of a line between its spaces
abbrev pub fields : List ℕ → List (List ℕ)
fields line = slice_split (λ byte. byte == space) line

-- the same of a line that may not be there
abbrev pub fields_if_any : Option (List ℕ) → List (List ℕ)
fields_if_any None = []
fields_if_any (Some line) = fields line

-- the line is a word and these numbers, with one space between two of them, and each number is at most 4294967295
pub record IsLine (line word : List ℕ) (numbers : List ℕ) : Type 0 where
  pub written : fields line ≡ word ∷ map decimal numbers
  pub in_range : All (λ number. number < 2 ^ 32) numbers
  pub few : length numbers ≤ 3

-- A language says of each thing that a line may ask for by which word and which numbers it is written.
module _ {A : Type 0} (language : A → List ℕ × List ℕ) where
  abbrev pub Encodes : List ℕ → List ℕ → A → Type 0
  Encodes word numbers asked = (word ≡ (language asked).0) × (numbers ≡ (language asked).1)

  -- the line asks for this
  abbrev pub Parses : List ℕ → A → Type 0
  Parses line asked = IsLine line (language asked).0 (language asked).1

  -- the line asks for nothing, so it is no line of the language
  abbrev pub IsInvalid : List ℕ → Type 0
  IsInvalid line = (asked : A) → ¬ (Parses line asked)

  -- a line asks for one thing at most
  abbrev pub AsksForOneThing : Type 0
  AsksForOneThing = (line : List ℕ) (one other : A) → Parses line one → Parses line other → one ≡ other
