-- The entries of a map whose keys are within two bounds.
use Rattle.std.specs.Prelude.{ℕ, suc, cond, List, length, is_some, slice_range}
use Rattle.std.specs.Range.Bound.{bound_map}
use Rattle.std.specs.declared.cmp.Ordering.{Ordering}
use Rattle.std.specs.declared.ops.Bound.{Bound}
use Rattle.std.specs.declared.ops.Bound.TheVariants.{Included, Excluded, Unbounded}
use Rattle.maps.specs.Maps.{lookup_by, rank_by}

module _ {K V : Type 0} where
  -- the number of keys at or below a query
  abbrev pub rank_with_by : (K → Ordering) → List (K × V) → ℕ
  rank_with_by order es = cond (is_some (lookup_by order es)) (suc (rank_by order es)) (rank_by order es)

  -- the number of keys before the start
  abbrev pub before_start : Bound (K → Ordering) → List (K × V) → ℕ
  before_start (Included order) es = rank_by order es
  before_start (Excluded order) es = rank_with_by order es
  before_start Unbounded es = 0

  -- the number of keys up to the end
  abbrev pub up_to_end : Bound (K → Ordering) → List (K × V) → ℕ
  up_to_end (Included order) es = rank_with_by order es
  up_to_end (Excluded order) es = rank_by order es
  up_to_end Unbounded es = length es

  -- the entries whose keys are within the bounds
  abbrev pub entries_between : Bound (K → Ordering) → Bound (K → Ordering) → List (K × V) → List (K × V)
  entries_between start end es = slice_range es (before_start start es) (up_to_end end es)

  -- the entries within bounds that are keys themselves
  abbrev pub entries_within : (K → K → Ordering) → Bound K → Bound K → List (K × V) → List (K × V)
  entries_within cmp start end es = entries_between (bound_map cmp start) (bound_map cmp end) es
