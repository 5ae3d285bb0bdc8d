-- A map of interned keys, with a value for each.
use Rattle.std.specs.Prelude.{◌≡◌, ℕ, Bool, List, Some, position, slice_get}

-- the keys in the order of their symbols, and their values in that order
pub record KeysAndValues (K V : Type 0) : Type 0 where
  pub keys : List K
  pub values : List V

-- the value is that of the first key that passes
pub record IsUnder {K V : Type 0} (pass : K → Bool) (map : KeysAndValues K V) (value : V) : Type 0 where
  pub symbol : ℕ
  pub found : position pass map.keys ≡ Some symbol
  pub at : slice_get map.values symbol ≡ Some value
