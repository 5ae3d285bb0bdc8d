use Rattle.std.proofs.Common.{◌*◌, ◌-◌}
use Rattle.sequence.specs.Nodes.{height_in}
use Rattle.sequence.proofs.tree.+split_in_place.Given as goal

abbrev pub decreases-Tree::split_in_place : goal.decreases-Tree::split_in_place
decreases-Tree::split_in_place g l = 3 * l.self.now.1

abbrev pub decreases-split_in_place::split_children : goal.decreases-split_in_place::split_children
decreases-split_in_place::split_children g l = 3 * height_in l.children.now.items - 1

abbrev pub decreases-split_in_place::edge_at : goal.decreases-split_in_place::edge_at
decreases-split_in_place::edge_at g l = 3 * height_in l.children.now.items - 2
