use Rattle.std.proofs.Common.{◌+◌, ◌-◌, ◌≤◌, ◌<◌, length, take}
use Rattle.sequence.specs.Cuts.{first}
use Rattle.sequence.specs.Nodes.{items_in}
use Rattle.sequence.proofs.tree.cut.child_of.Given as goal

-- the children whose first item is before the cut are counted, of those that were seen
abbrev pub invariant-along : goal.invariant-along
invariant-along g l =
    let cut = first (g.C.Cut.is_before l.cut) (items_in l.children) in
    record {
      within : l.seen < length l.children;
      behind : l.at ≤ l.seen;
      before : 0 < length (items_in (take l.at l.children)) → length (items_in (take l.at l.children)) < cut;
      to : l.at < l.seen → cut ≤ length (items_in (take (l.at + 1) l.children));
    }

abbrev pub decreases-along : goal.decreases-along
decreases-along g l = length l.children - l.seen
