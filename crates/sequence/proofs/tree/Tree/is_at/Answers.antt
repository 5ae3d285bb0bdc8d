use Rattle.std.proofs.Common.{◌<◌, subst, length}
use Rattle.sequence.proofs.Nodes.Wide.{list_node}
use Rattle.sequence.proofs.tree.Tree.is_at.Goals as goal

pub returns-clause-some : goal.returns-clause-some
returns-clause-some g c =
    subst (λ t. 0 < length t.0) c.self.view_is (list_node g.L.Label.label_of _ c.self.invariant).some

pub returns-clause-other : goal.returns-clause-other
returns-clause-other g c =
    subst (λ t. 0 < length t.0) c.other.view_is (list_node g.L.Label.label_of _ c.other.invariant).some
