use Rattle.std.proofs.Common.{◌≡◌, ◌+◌, ◌<◌}
use Rattle.sequence.specs.Nodes.{IsNode, seen}
use Rattle.sequence.proofs.tree.Tree.depth.Given as goal

-- the nodes that were passed, and those that are left
abbrev pub invariant-down : goal.invariant-down
invariant-down g l = record {
  whole : IsNode g.L.Label.label_of l.node;
  nodes : l.depth + (seen l.node).1 ≡ l.self.1 + 1;
  low : l.self.1 < 65;
}

abbrev pub decreases-down : goal.decreases-down
decreases-down g l = (seen l.node).1
