-- A query is hashed and compared as each value for which it stands.
use Rattle.std.specs.Prelude.{◌≡◌, ℕ, Bool, List}

-- it is hashed as the value, and stands for what equals the value
pub record IsFormOf {T : Type 0} (eq : T → T → Bool) (stands_for : T → Bool) (writes value_writes : List (List ℕ))
    (value : T) : Type 0 where
  pub hashed : writes ≡ value_writes
  pub equal : (other : T) → stands_for other ≡ eq value other
