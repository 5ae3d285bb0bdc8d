use Rattle.std.proofs.Common.{◌+◌, ◌≤◌, ◌<◌, length}
use Rattle.sequence.specs.Parts.{IsPart}
use Rattle.sequence.specs.Nodes.{IsNode, seen}
use Rattle.sequence.proofs.tree.Tree.leaf_at.Given as goal

-- the node has the item
abbrev pub invariant-down : goal.invariant-down
invariant-down g l = record {
  part : IsPart (seen l.node).0 l.start l.self.0;
  from : l.start ≤ l.index;
  to : l.index < l.start + length (seen l.node).0;
  whole : IsNode g.L.Label.label_of l.node;
}

abbrev pub decreases-down : goal.decreases-down
decreases-down g l = (seen l.node).1
