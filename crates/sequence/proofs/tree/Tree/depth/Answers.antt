-- The passed nodes are all when a leaf is reached.
use Rattle.std.proofs.Common.{◌*◌, ◌≤◌, ◌^◌, ap, sym, subst, arith, length}
use Rattle.std.proofs.lemmas.Grind.{pow_more}
use Rattle.sequence.specs.Nodes.{seen}
use Rattle.sequence.proofs.tree.Tree.depth.Goals as goal

pub returns-clause-height : goal.returns-clause-height
returns-clause-height g c =
    let leaf = ap (λ node. (seen node).1) c.in_default.is in omega (arith, c.down.invariant.nodes, leaf)

pub returns-clause-nodes : goal.returns-clause-nodes
returns-clause-nodes g c =
    record {
      root = c.self.inside.root;
      whole = c.self.invariant;
      items = ap (λ t. t.0) c.self.view_is;
      nodes = omega (arith, ap (λ t. t.1) c.self.view_is, returns-clause-height g c);
    }

pub returns-clause-at_most : goal.returns-clause-at_most
returns-clause-at_most g c =
    subst (λ n. 2 ^ n ≤ 4 * length c.args.self.now.0) (sym (returns-clause-height g c))
    (omega (arith, pow_more 2 c.args.self.now.1, c.node-node.ensures.wide))
