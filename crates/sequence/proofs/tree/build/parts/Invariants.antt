use Rattle.std.proofs.Common.{◌≡◌, ◌+◌, ◌≤◌, ◌^◌, length}
use Rattle.sequence.specs.Nodes.{IsNode, seen}
use Rattle.sequence.proofs.Shapes.Built.{IsBefore}
use Rattle.sequence.proofs.tree.build.parts.Given as goal

-- the node has the items in front of those that were split off
abbrev pub invariant-off : goal.invariant-off
invariant-off g l = record {
  node : IsNode g.L.Label.label_of l.node;
  height : (seen l.node).1 ≡ (seen l.fn.node).1;
  wide : 2 ^ (seen l.node).1 ≤ length (seen l.node).0;
  len : l.len ≡ length (seen l.node).0;
  before : IsBefore g.L.Label.label_of ((seen l.fn.node).1 + 1) (seen l.fn.node).0 (seen l.node).0 l.children.items;
}

abbrev pub decreases-off : goal.decreases-off
decreases-off g l = length (seen l.node).0
