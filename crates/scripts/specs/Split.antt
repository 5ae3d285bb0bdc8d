-- Parts of a text.
use Rattle.std.specs.Prelude.{ℕ, List, ◌∷◌, ◌++◌, Option, Some, None}

-- the text alone, or with a separator and more text after it
abbrev pub with_rest : ℕ → List ℕ → Option (List ℕ) → List ℕ
with_rest separator text None = text
with_rest separator text (Some rest) = text ++ separator ∷ rest
