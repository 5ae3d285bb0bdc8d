-- The values of a chain.
use Rattle.std.specs.Prelude.{ℕ, List, [], ◌∷◌, unwrap_or}
use Rattle.uses.specs.declared.along_a_path.Chain.{Chain, fold-Chain}

-- the values from a node on
abbrev pub values : Chain → List ℕ
values chain = fold-Chain (List ℕ) (λ n. n.value ∷ unwrap_or n.next []) chain
