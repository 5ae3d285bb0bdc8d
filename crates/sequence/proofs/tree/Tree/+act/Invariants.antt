use Rattle.sequence.proofs.tree.Tree.+act.Given as goal

abbrev pub decreases-act : goal.decreases-act
decreases-act g l = l.self.now.1
