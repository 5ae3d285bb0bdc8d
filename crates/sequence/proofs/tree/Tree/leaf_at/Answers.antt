use Rattle.std.proofs.Common.{◌+◌, ◌-◌, ◌<◌, ◌∙◌, ap, arith, length, subst, sym}
use Rattle.sequence.specs.Nodes.{AreChildren, IsNode, items_in, seen}
use Rattle.sequence.specs.Parts.{IsPart}
use Rattle.sequence.proofs.Nodes.Children.{part_child}
use Rattle.sequence.proofs.tree.Tree.leaf_at.Goals as goal

pub down-preserved : goal.down-preserved
down-preserved g c =
    let cs = c.in-Branch.children.items in
    let part = rw c.in-Branch.is at c.down.invariant.part in
    let leads = rw c.deref-in-Branch.ensures.value at c.spot_of-spot.ensures in
    let at = c.spot_of-spot.result.child in
    let d = c.index.result.now in
    let same = ap (λ t. t.0) c.node-node-in-Branch.ensures.same ∙ ap (λ child. child.tree.0) c.index.ensures in
    let inside = leads.inside d in
    let inner = leads.inner (omega arith) in
    let start = c.down.start + (c.args.index - c.down.start + 1 - c.spot_of-spot.result.place) in
    record {
      part = subst (λ es. IsPart es start c.args.self.now.0) (sym same)
          (part_child cs at d c.down.start start c.args.self.now.0 leads.within (omega (arith, leads.is)) part);
      from = omega (arith, leads.is, inner, c.down.invariant.from);
      to = omega (arith, leads.is, inside, inner, ap (λ es. length es) same, c.down.invariant.from);
      whole = c.node-node-in-Branch.ensures.whole;
    }

pub spot_of-spot-requires-clause-children : goal.spot_of-spot-requires-clause-children
spot_of-spot-requires-clause-children g c =
    subst (AreChildren g.L.Label.label_of) (sym c.deref-in-Branch.ensures.value)
    (subst (IsNode g.L.Label.label_of) c.in-Branch.is c.down.invariant.whole)

pub spot_of-spot-requires-clause-within : goal.spot_of-spot-requires-clause-within
spot_of-spot-requires-clause-within g c =
    omega (
      arith,
      c.down.invariant.from,
      c.down.invariant.to,
      ap (λ node. length (seen node).0) c.in-Branch.is,
      ap (λ cs. length (items_in cs)) c.deref-in-Branch.ensures.value,
    )

pub overflow_add-start : goal.overflow_add-start
overflow_add-start g c =
    omega (arith, c.ranges.index.fits, c.down.invariant.from, c.spot_of-spot.ensures.inner (omega arith))

pub down-smaller : goal.down-smaller
down-smaller g c =
    let d = c.index.result.now in
    let are = subst (IsNode g.L.Label.label_of) c.in-Branch.is c.down.invariant.whole in
    let at = c.spot_of-spot.result.child in
    let within = subst (λ cs. at < length cs) c.deref-in-Branch.ensures.value c.spot_of-spot.ensures.within in
    omega (
      arith,
      ap (λ node. (seen node).1) c.in-Branch.is,
      ap (λ t. t.1) c.node-node-in-Branch.ensures.same,
      ap (λ child. child.tree.1) c.index.ensures,
      (are.each at d within).level,
    )
