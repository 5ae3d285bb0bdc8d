use Rattle.std.proofs.Common.{◌≡◌, drop, length}
use Rattle.std.specs.Cmp.Lexicographic.{pointwise}
use Rattle.cow_table.proofs.compare.CowTablePartialEq.eq.Given as goal

-- what is left decides
abbrev pub invariant-loop-i : goal.invariant-loop-i
invariant-loop-i g l = record {
  decides : pointwise g.T.PartialEq.eq (drop l.i l.self) (drop l.i l.other) ≡ pointwise g.T.PartialEq.eq l.self l.other;
  same_length : length l.self ≡ length l.other;
}
