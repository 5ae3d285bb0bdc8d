use Rattle.sequence.proofs.tree.Tree.+insert.Given as goal

abbrev pub decreases-insert : goal.decreases-insert
decreases-insert g l = l.self.now.1
