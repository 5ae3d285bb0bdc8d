use Rattle.std.proofs.Common.{◌≡◌, ◌≤◌, ◌<◌, ◌^◌, ◌∷◌, ◌++◌, length, map, decimal}
use Rattle.std.specs.List.{All}
use Rattle.std.specs.Option.{option_copied}
use Rattle.scripts.specs.Line.{fields, fields_if_any}
use Rattle.scripts.proofs.line.read_line.Given as goal

-- the numbers so far, and the fields that are left
abbrev pub invariant-loop-rest : goal.invariant-loop-rest
invariant-loop-rest l = record {
  read : fields l.text ≡ l.word ∷ (map decimal l.numbers.items ++ fields_if_any (option_copied l.rest));
  in_range : All (λ number. number < 2 ^ 32) l.numbers.items;
  few : length l.numbers.items ≤ 3;
}

abbrev pub decreases-loop-rest : goal.decreases-loop-rest
decreases-loop-rest l = length (fields_if_any (option_copied l.rest))
