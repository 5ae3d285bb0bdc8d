-- What is written on an output, if that can be known.
use Rattle.std.specs.Prelude.{◌≡◌, ℕ, List, Option, ◌++◌}
use Rattle.std.specs.Io.KnownBytes.{Appends}

-- just such a text was written
abbrev pub Wrote : (List ℕ → Type 0) → Option (List ℕ) → Option (List ℕ) → Type 0
Wrote is_right old new = (text : List ℕ) × is_right text × Appends old new text

-- nothing but a beginning of the text was written
abbrev pub WroteBeginning : List ℕ → Option (List ℕ) → Option (List ℕ) → Type 0
WroteBeginning text old new = (done left : List ℕ) × (text ≡ done ++ left) × Appends old new done
