use Rattle.sequence.proofs.tree.Tree.+modify.Given as goal

abbrev pub decreases-modify : goal.decreases-modify
decreases-modify g l = l.self.now.1
