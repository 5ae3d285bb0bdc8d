use Rattle.std.proofs.Common.{◌≡◌, ◌-◌}
use Rattle.sequence.specs.Nodes.{IsNode, seen}
use Rattle.sequence.proofs.tree.Tree.of_items.Given as goal

-- a node with all items
abbrev pub invariant-up : goal.invariant-up
invariant-up g l = record {
  node : IsNode g.L.Label.label_of l.node;
  items : (seen l.node).0 ≡ l.fn.items.items;
}

abbrev pub decreases-up : goal.decreases-up
decreases-up g l = 65 - (seen l.node).1
