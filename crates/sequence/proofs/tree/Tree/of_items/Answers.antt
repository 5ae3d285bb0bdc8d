use Rattle.std.proofs.Common.{◌<◌, arith}
use Rattle.sequence.specs.Nodes.{seen}
use Rattle.sequence.proofs.Nodes.Wide.{list_node, low, wide_node}
use Rattle.sequence.proofs.tree.Tree.of_items.Goals as goal

pub up-smaller : goal.up-smaller
up-smaller g c =
    let node = c.up.node in
    let whole = c.up.invariant.node in
    let under : (seen node).1 < 65 =
    low _ _ (wide_node g.L.Label.label_of node whole) (list_node g.L.Label.label_of node whole).room in
    omega (arith, under, c.in_ok-parts.ensures.height)
