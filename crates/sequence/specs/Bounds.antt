-- The items of a list whose indices are within two bounds.
use Rattle.std.specs.Prelude.{ℕ, ◌+◌, List, length, slice_range}
use Rattle.std.specs.declared.ops.Bound.{Bound}
use Rattle.std.specs.declared.ops.Bound.TheVariants.{Included, Excluded, Unbounded}

-- the first index within the start
abbrev pub start_of : Bound ℕ → ℕ
start_of (Included number) = number
start_of (Excluded number) = number + 1
start_of Unbounded = 0

-- the first index past the end, for a list of that length
abbrev pub end_of : Bound ℕ → ℕ → ℕ
end_of (Included number) len = number + 1
end_of (Excluded number) len = number
end_of Unbounded len = len

abbrev pub items_within : {T : Type 0} → Bound ℕ → Bound ℕ → List T → List T
items_within start end es = slice_range es (start_of start) (end_of end (length es))
