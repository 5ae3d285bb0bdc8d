-- The values of an interner, in the order of their symbols.
use Rattle.std.specs.Prelude.{◌≡◌, ℕ, ◌↔◌, Bool, true, List, [], ◌∷◌, ◌++◌, Option, Some, IsSome, position}
use Rattle.std.specs.Prelude.{if◌then◌else◌}
use Rattle.std.specs.List.{list_any}

module _ {T : Type 0} (eq : T → T → Bool) where
  -- the symbol of a value, if an equal one is among them
  abbrev pub symbol_of : List T → T → Option ℕ
  symbol_of values value = position (eq value) values

  -- the value behind the others, if no equal one is among them
  abbrev pub with_value : List T → T → List T
  with_value values value = if list_any (eq value) values then values else values ++ value ∷ []

  -- the symbol is that of the values that are equal to this one, and each value that was there has the symbol it had
  pub record IsInterned (old : List T) (value : T) (new : List T) (symbol : ℕ) : Type 0 where
    pub values : new ≡ with_value old value
    pub one : (v : T) → (symbol_of new v ≡ Some symbol) ↔ (eq v value ≡ true)
    pub stays : (v : T) → IsSome (symbol_of old v) → symbol_of new v ≡ symbol_of old v
