-- What an iterator yields to a builder of n items, which calls `next` until n items came and then once more, or
-- until `None`.
use Rattle.std.specs.Prelude.{◌≡◌, ℕ, ◌<◌, List, length, Option, None, Some}
use Rattle.std.specs.Iterator.{YieldsThen}

-- `after` is what the iterator `source` is then
module _ {S A : Type 0} (steps : S → Option A → S → Type 0) (source : S) (n : ℕ) (after : S) where
  -- just n items
  abbrev pub GivesRight : List A → Type 0
  GivesRight items = YieldsThen steps source items None after × (length items ≡ n)

  -- fewer than n
  abbrev pub GivesFewer : Type 0
  GivesFewer = (items : List A) × YieldsThen steps source items None after × (length items < n)

  -- one more than n, at least
  abbrev pub GivesMore : Type 0
  GivesMore = (items : List A) × (extra : A) × YieldsThen steps source items (Some extra)
      after × (length items ≡ n)
