-- What the invariant of a tree says of its items and its height.
use Rattle.std.proofs.Common.{◌*◌, ◌≤◌, ◌^◌, length, rules, subst}
use Rattle.sequence.specs.Nodes.{IsList}
use Rattle.sequence.proofs.Nodes.Wide.{list_node, low, wide_node}
use Rattle.sequence.proofs.tree.Tree.node.Goals as goal

pub returns : goal.returns
returns g c =
    let list = subst (λ t. IsList t.0) c.self.view_is (list_node g.L.Label.label_of _ c.self.invariant) in
    let wide = subst (λ t. 2 ^ t.1 ≤ 2 * length t.0) c.self.view_is (wide_node g.L.Label.label_of _ c.self.invariant) in
    record {
      same = search rules;
      whole = search rules;
      some = list.some;
      low = low _ _ wide list.room;
      wide = wide;
    }
