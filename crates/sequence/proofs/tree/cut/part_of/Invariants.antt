use Rattle.std.proofs.Common.{◌+◌, ◌-◌, ◌≤◌, ◌<◌, length}
use Rattle.sequence.specs.Cuts.{first}
use Rattle.sequence.proofs.tree.cut.part_of.Given as goal

-- the parts that begin before the cut are counted, of those that were seen
abbrev pub invariant-along : goal.invariant-along
invariant-along g l =
    let cut = first (g.C.Cut.is_before l.cut) l.items in
    record {
      within : l.seen < length l.items;
      behind : l.at ≤ l.seen;
      before : 0 < l.at → l.at < cut;
      to : l.at < l.seen → cut ≤ l.at + l.part;
    }

abbrev pub decreases-along : goal.decreases-along
decreases-along g l = length l.items - l.seen
