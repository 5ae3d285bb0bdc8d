use Rattle.std.proofs.Common.{◌≡◌, ◌+◌, ◌-◌, ◌<◌, length, take}
use Rattle.sequence.specs.Nodes.{items_in}
use Rattle.sequence.proofs.tree.search.spot_of.Given as goal

-- the items that were passed by, and those that are left
abbrev pub invariant-along : goal.invariant-along
invariant-along g l = record {
  within : l.child < length l.children;
  left : l.place ≡ length (items_in (take l.child l.children)) + l.left;
  inner : 0 < l.place → 0 < l.left;
}

abbrev pub decreases-along : goal.decreases-along
decreases-along g l = length l.children - l.child
