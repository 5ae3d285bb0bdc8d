use Rattle.std.proofs.Common.{◌≡◌, ℕ, ◌<◌, ◌≤◌, ◌-◌, ◌^◌, get_or, length, take}
use Rattle.std.specs.Int.{IsInRange}
use Rattle.std.specs.Str.Parse.{digits_value}
use Rattle.scripts.proofs.number.split_number.Given as goal

-- the bytes so far are digits, and the value, which fits, is theirs
abbrev pub invariant-loop-count : goal.invariant-loop-count
invariant-loop-count l = record {
  digits : (k : ℕ) → k < l.count → IsInRange 48 57 (get_or l.text k 0);
  value : digits_value 10 (take l.count l.text) ≡ l.value;
  in_range : l.value < 2 ^ 32;
  within : l.count ≤ length l.text;
}

abbrev pub decreases-loop-count : goal.decreases-loop-count
decreases-loop-count l = length l.text - l.count
