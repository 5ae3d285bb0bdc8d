use Rattle.std.proofs.Common.{◌+◌, ◌*◌}
use Rattle.sequence.proofs.tree.+remove.Given as goal

abbrev pub decreases-Tree::remove : goal.decreases-Tree::remove
decreases-Tree::remove g l = 2 * l.self.now.1

abbrev pub decreases-Child::remove : goal.decreases-Child::remove
decreases-Child::remove g l = 2 * l.self.now.tree.1 + 1
