-- How many values a value has that holds itself.
use Rattle.std.specs.Prelude.{ℕ, ◌+◌, sum}
use Rattle.std.specs.Map.{values_of}
use Rattle.uses.specs.declared.recursive.by_versions.Value.{Value, fold-Value}
use Rattle.uses.specs.declared.recursive.by_versions.Value.TheOpen.{Value-F}

-- one level, with the count of each child in its place
abbrev pub count_step : Value-F ℕ → ℕ
count_step Value-F.Null = 1
count_step (Value-F.Number n) = 1
count_step (Value-F.List counts) = 1 + sum counts
count_step (Value-F.Map entries) = 1 + sum (values_of entries)

-- the number of values, with this one
abbrev pub values_in : Value → ℕ
values_in = fold-Value ℕ count_step
