-- A tree is higher than those under it.
use Rattle.std.specs.Prelude.{◌+◌, ◌≤◌}
use Rattle.std.proofs.Common.{arith}
use denote.Param.Weighed.{most}
use Rattle.sequence.specs.declared.label.Label.{Ghosts as LabelGhosts}
use Rattle.sequence.specs.declared.tree.Node.{Node}
use Rattle.sequence.specs.declared.tree.Node.TheVariants.{Leaf, Branch}
use Rattle.sequence.specs.declared.tree.Tree.TheDeep.{deep-Tree}
use Rattle.sequence.specs.Nodes.{seen}

pub falls : {T L : Type 0} (labels : LabelGhosts L T) (root : Node T L)
    → deep-Tree T L labels (record { root = root }) ≤ (seen root).1
falls labels (Leaf items) = omega arith
falls {T} {L} labels (Branch children) =
    let highest : deep-Tree T L labels (record { root = Branch children }) ≤ most (λ c. c.tree.1 + 1) children.items =
    grind arith in
    omega arith
