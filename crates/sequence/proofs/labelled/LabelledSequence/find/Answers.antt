-- The leaf has the cut that the list has, and so has the child that is gone on with, or it is before all.
use Rattle.std.proofs.Common.{◌≡◌, ◌+◌, ◌<◌, ◌^◌, ◌∙◌, ap, arith, length, subst, sym, take}
use Rattle.std.specs.List.{All}
use Rattle.std.proofs.lemmas.List.{length-take-le}
use Rattle.std.proofs.lemmas.List.Elements.{All-take}
use Rattle.sequence.specs.declared.tree.Child.{Child}
use Rattle.sequence.specs.Nodes.{AreChildren, IsNode, items_in, items_under, seen}
use Rattle.sequence.proofs.Cuts.{Holds, has_part, holds_all, last_cut, last_item, none_before}
use Rattle.sequence.proofs.Cutting.Labels.{holds_child}
use Rattle.sequence.proofs.Nodes.Children.{length-parts, length-split}
use Rattle.sequence.proofs.Nodes.Wide.{list_node}
use Rattle.sequence.proofs.labelled.LabelledSequence.find.Goals as goal

pub down-init : goal.down-init
down-init g c =
    let test = g.C.Cut.is_before c.args.cut.now in
    let node = c.node-node.ensures in
    let all = c.args.self.now in
    let same = ap (λ t. t.0) node.same ∙ ap (λ root. items_under root) (sym c.in-Some.is) ∙ c.self.view_is in
    record {
      holds = subst (λ es. Holds test es 0 all) (sym same) (holds_all test all);
      room = omega (arith, (list_node g.L.Label.label_of c.node-node.result.now node.whole).room);
      whole = node.whole;
    }

pub last_in-requires-clause-cut : goal.last_in-requires-clause-cut
last_in-requires-clause-cut g c =
    let test = g.C.Cut.is_before c.args.cut.now in
    let holds = subst (λ node. Holds test (seen node).0 c.down.start c.args.self.now) c.in-Leaf.is
    c.down.invariant.holds in
    rw c.deref.ensures.value (has_part test c.in-Leaf.items.items c.args.self.now c.down.start c.requires holds)

pub returns-in-None-clause-none : goal.returns-in-None-clause-none
returns-in-None-clause-none g c =
    let test = g.C.Cut.is_before c.args.cut.now in
    let holds = subst (λ node. Holds test (seen node).0 c.down.start c.args.self.now) c.in-Leaf.is
    c.down.invariant.holds in
    let none = rw c.deref.ensures.value at c.in-None.ensures.none in
    none_before test c.in-Leaf.items.items c.args.self.now c.down.start c.requires holds none

pub returns-in-Some-last_in-clause-number : goal.returns-in-Some-last_in-clause-number
returns-in-Some-last_in-clause-number g c =
    let test = g.C.Cut.is_before c.args.cut.now in
    let holds = subst (λ node. Holds test (seen node).0 c.down.start c.args.self.now) c.in-Leaf.is
    c.down.invariant.holds in
    let some = rw c.deref.ensures.value at c.in-Some-last_in.ensures.some in
    last_cut test c.in-Leaf.items.items c.args.self.now c.down.start c.requires holds c.in-Some-last_in.at some

pub returns-in-Some-last_in-clause-item : goal.returns-in-Some-last_in-clause-item
returns-in-Some-last_in-clause-item g c =
    let test = g.C.Cut.is_before c.args.cut.now in
    let holds = subst (λ node. Holds test (seen node).0 c.down.start c.args.self.now) c.in-Leaf.is
    c.down.invariant.holds in
    let some = rw c.deref.ensures.value at c.in-Some-last_in.ensures.some in
    last_item test c.in-Leaf.items.items c.args.self.now c.down.start c.requires holds c.in-Some-last_in.at _
    some.within c.index.ensures

pub child_of-at-requires-clause-cut : goal.child_of-at-requires-clause-cut
child_of-at-requires-clause-cut g c =
    let test = g.C.Cut.is_before c.args.cut.now in
    let holds = subst (λ node. Holds test (seen node).0 c.down.start c.args.self.now) c.in-Branch.is
    c.down.invariant.holds in
    rw c.deref-in-Branch.ensures.value
    (has_part test (items_in c.in-Branch.children.items) c.args.self.now c.down.start c.requires holds)

pub count-start-requires-clause-room : goal.count-start-requires-clause-room
count-start-requires-clause-room g c =
    let cs = c.in-Branch.children.items in
    let at = c.child_of-at.result in
    let room = subst (λ node. c.down.start + length (seen node).0 < 2 ^ 64) c.in-Branch.is c.down.invariant.room in
    let fits : length (items_in (take at cs)) < 2 ^ 64 = omega (arith, room, length-parts cs at) in
    rw c.deref-in-Branch-2.ensures.value fits

pub overflow_add-start : goal.overflow_add-start
overflow_add-start g c =
    let room = subst (λ node. c.down.start + length (seen node).0 < 2 ^ 64) c.in-Branch.is c.down.invariant.room in
    let count = c.count-start.ensures
    ∙ ap (λ cs. length (items_in (take c.child_of-at.result cs))) c.deref-in-Branch-2.ensures.value in
    omega (arith, room, count, length-parts c.in-Branch.children.items c.child_of-at.result)

pub down-preserved : goal.down-preserved
down-preserved g c =
    let test = g.C.Cut.is_before c.args.cut.now in
    let all = c.args.self.now in
    let cs = c.in-Branch.children.items in
    let at = c.child_of-at.result in
    let d = c.index-in-Branch.result.now in
    let start = c.down.start in
    let next = start + c.count-start.result in
    let holds = subst (λ node. Holds test (seen node).0 c.down.start c.args.self.now) c.in-Branch.is
    c.down.invariant.holds in
    let room = subst (λ node. c.down.start + length (seen node).0 < 2 ^ 64) c.in-Branch.is c.down.invariant.room in
    let under = rw c.deref-in-Branch.ensures.value at c.child_of-at.ensures in
    let count = c.count-start.ensures
    ∙ ap (λ cs. length (items_in (take c.child_of-at.result cs))) c.deref-in-Branch-2.ensures.value in
    let tree = ap (λ t. t.0) c.node-node-in-Branch.ensures.same in
    let same = tree ∙ ap (λ child. child.tree.0) c.index-in-Branch.ensures in
    record {
      holds = subst (λ es. Holds test es next all) (sym same)
          (holds_child test cs at d start next all under.within c.requires holds under.among
          (ap (λ n. start + n) count));
      room = omega (arith, room, count, ap (λ es. length es) same, length-split cs at d under.within);
      whole = c.node-node-in-Branch.ensures.whole;
    }

pub child_of-at-requires-clause-children : goal.child_of-at-requires-clause-children
child_of-at-requires-clause-children g c =
    subst (AreChildren g.L.Label.label_of) (sym c.deref-in-Branch.ensures.value)
    (subst (IsNode g.L.Label.label_of) c.in-Branch.is c.down.invariant.whole)

pub slice_bounds-count-end : goal.slice_bounds-count-end
slice_bounds-count-end g c =
    let same = c.deref-in-Branch.ensures.value ∙ sym c.deref-in-Branch-2.ensures.value in
    sym (length-take-le c.child_of-at.result c.deref-in-Branch-2.result.now
    (omega (arith, c.child_of-at.ensures.within, ap (λ cs. length cs) same)))

pub count-start-requires-clause-each : goal.count-start-requires-clause-each
count-start-requires-clause-each g c =
    let counted : Child g.row.T.Denot g.row.L.Denot → Type 0 = λ child. child.len ≡ length child.tree.0 in
    let are = subst (IsNode g.L.Label.label_of) c.in-Branch.is c.down.invariant.whole in
    subst (λ cs. All counted (take c.child_of-at.result cs)) (sym c.deref-in-Branch-2.ensures.value)
    (All-take counted c.child_of-at.result c.in-Branch.children.items (λ k d lt. (are.each k d lt).counted))

pub down-smaller : goal.down-smaller
down-smaller g c =
    let d = c.index-in-Branch.result.now in
    let are = subst (IsNode g.L.Label.label_of) c.in-Branch.is c.down.invariant.whole in
    let within = subst (λ cs. c.child_of-at.result < length cs) c.deref-in-Branch.ensures.value
    c.child_of-at.ensures.within in
    omega (
      arith,
      ap (λ node. (seen node).1) c.in-Branch.is,
      ap (λ t. t.1) c.node-node-in-Branch.ensures.same,
      ap (λ child. child.tree.1) c.index-in-Branch.ensures,
      (are.each c.child_of-at.result d within).level,
    )
