-- A bank is the list of its accounts with their balances. A missing account has a balance of 0.
use Rattle.std.specs.Prelude.{ℕ, List, sum_by}
use Rattle.std.specs.Option.{unwrap_or}
use Rattle.std.specs.Ordering.{nat_cmp}
use Rattle.std.specs.declared.ops.Bound.TheVariants.{Included, Excluded}
use Rattle.maps.specs.Bounds.{entries_within}
use Rattle.maps.specs.Maps.{lookup}

abbrev pub balance : ℕ → List (ℕ × ℕ) → ℕ
balance account bank = unwrap_or (lookup nat_cmp account bank) 0

abbrev pub total : List (ℕ × ℕ) → ℕ
total bank = sum_by (λ e. e.1) bank

-- the accounts from one number up to another, which is excluded
abbrev pub accounts_between : ℕ → ℕ → List (ℕ × ℕ) → List (ℕ × ℕ)
accounts_between first end bank = entries_within nat_cmp (Included first) (Excluded end) bank
