use Rattle.std.proofs.Common.{◌≡◌, ◌∙◌, ap, arith, drop, length, subst, sym}
use Rattle.sequence.specs.declared.tree.Child.{Child}
use Rattle.sequence.specs.Nodes.{AreChildren, AreHalves, items_in, height_in, seen}
use Rattle.sequence.proofs.Shapes.Halves.{branches_are, children_drop, children_take}
use Rattle.sequence.proofs.tree.split.split_branch.Goals as goal
use Rattle.sequence.proofs.tree.split.split_branch.Given as given
use Rattle.sequence.proofs.tree.split.split_branch.Goals.{In_ok-tail}

-- the second half are the children of a node
tail_are : (g : given.Over) (c : In_ok-tail g) → AreChildren g.L.Label.label_of c.in_ok-tail.tail.items
tail_are g c =
    subst (AreChildren g.L.Label.label_of) (sym c.in_ok-tail.ensures.tail)
    (children_drop c.args.children.now.items c.args.keep c.requires.children c.requires.within)

pub count-requires : goal.count-requires
count-requires g c =
    let are = subst (AreChildren g.L.Label.label_of) (sym c.deref.ensures.value)
    (tail_are g (goal.at.count-requires g c).In_ok-tail) in
    record { each = λ k d h. (are.each k d h).counted; room = are.list.room }

pub invariant_of-result : goal.invariant_of-result
invariant_of-result g c =
    rw c.shareable.ensures (rw c.write.ensures (tail_are g (goal.at.invariant_of-result g c).In_ok-tail))

pub returns : goal.returns
returns g c =
    let cs = c.args.children.now.items in
    let n = c.args.keep in
    let tail = c.in_ok-tail.ensures.tail in
    let len : c.count.result ≡ length (items_in (drop n cs)) =
    c.count.ensures ∙ ap (λ xs. length (items_in xs)) (c.deref.ensures.value ∙ tail) in
    let is = ap (λ node. seen node) (c.shareable.ensures ∙ c.write.ensures)
    ∙ ap (λ xs. (items_in xs, height_in xs)) tail in
    let label = c.requires.labels _ _ c.in_ok-label.ensures.cases ∙ ap (λ child. child.label) c.index.ensures in
    let right : Child g.row.T.Denot g.row.L.Denot =
    record { label = c.in_ok-label.label; len = c.count.result; tree = seen c.shareable.result } in
    record {
      children = subst (AreChildren g.L.Label.label_of) (sym c.in_ok-tail.ensures.items)
          (children_take cs n c.requires.children c.requires.some (omega (arith, c.requires.within)));
      halves = subst (λ xs. AreHalves g.L.Label.label_of (items_in cs, height_in cs) (items_in xs, height_in xs) right)
          (sym c.in_ok-tail.ensures.items)
          (branches_are cs n c.requires.children c.requires.some c.requires.within c.index.result.now right
          c.requires.sides len is label);
      kept = c.in_ok-tail.ensures.items;
      refused = tt;
    }
