-- A cut of a list: a predicate that is true for a number of first items and false for all others (a partition point).
use Rattle.std.specs.Prelude.{◌≡◌, ℕ, ◌+◌, ◌<◌, ◌≤◌, Bool, true, false, Some, List, length, take, drop, slice_get}
use Rattle.std.specs.List.{All, prefix_len}

module _ {T : Type 0} (test : T → Bool) where
  -- it holds of so many first items, and of none behind them
  pub record IsCut (es : List T) (at : ℕ) : Type 0 where
    pub within : at ≤ length es
    pub before : All (λ e. test e ≡ true) (take at es)
    pub behind : All (λ e. test e ≡ false) (drop at es)

  -- it holds of some first items, and of none behind them
  pub record HasCut (es : List T) : Type 0 where
    pub at : ℕ
    pub is : IsCut es at

  -- the item is the last of those first
  pub record IsLast (es : List T) (one : T) : Type 0 where
    pub at : ℕ
    pub is : IsCut es (at + 1)
    pub item : slice_get es at ≡ Some one

  -- how many of the first items it holds of
  abbrev pub first : List T → ℕ
  first es = prefix_len test es

-- the cut is behind an item from the one number up to the other, or before all
pub record IsAmong (from to cut : ℕ) : Type 0 where
  pub behind : 0 < from → from < cut
  pub up : cut ≤ to
