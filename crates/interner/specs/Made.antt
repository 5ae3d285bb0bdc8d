-- The result of `intern_by`: the value of the query is found, or the query makes it.
use Rattle.std.specs.Prelude.{◌≡◌, ℕ, Bool, true, false, List}
use Rattle.std.specs.List.{list_any}
use Rattle.interner.specs.Symbols.{IsInterned}

-- a value that the query stands for was interned; it was made if none was there
pub record IsFoundOrMade {T : Type 0} (eq : T → T → Bool) (stands_for : T → Bool) (Made : T → Type 0) (old new : List T)
    (symbol : ℕ) : Type 0 where
  pub value : T
  pub stands : stands_for value ≡ true
  pub interned : IsInterned eq old value new symbol
  pub made : list_any stands_for old ≡ false → Made value
