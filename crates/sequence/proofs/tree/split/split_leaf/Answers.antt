use Rattle.std.proofs.Common.{◌≡◌, ◌∙◌, ap, arith, drop, length, length-take, subst, sym}
use Rattle.sequence.specs.declared.tree.Child.{Child}
use Rattle.sequence.specs.Nodes.{AreHalves, IsList, seen}
use Rattle.sequence.proofs.Shapes.Halves.{leaves_are, list_drop, list_take}
use Rattle.sequence.proofs.tree.split.split_leaf.Goals as goal

pub invariant_of-result : goal.invariant_of-result
invariant_of-result g c =
    let es = c.args.items.now.items in
    let n = c.args.keep in
    let tail = c.with_room-tail.ensures ∙ c.in_ok-split_off.ensures.tail in
    rw c.shareable.ensures (rw c.write.ensures (subst IsList (sym tail)
    (list_drop es n c.requires.list c.requires.within)))

pub returns : goal.returns
returns g c =
    let es = c.args.items.now.items in
    let n = c.args.keep in
    let tail = c.with_room-tail.ensures ∙ c.in_ok-split_off.ensures.tail in
    let len : c.len.result ≡ length (drop n es) = omega (arith, c.len.ensures, ap (λ xs. length xs) tail) in
    let is = ap (λ node. seen node) (c.shareable.ensures ∙ c.write.ensures) ∙ ap (λ xs. (xs, 0)) tail in
    let label = c.in_ok-label.ensures c.requires.labels ∙ ap (λ e. g.L.Label.label_of e) c.index.ensures in
    let right : Child g.row.T.Denot g.row.L.Denot =
    record { label = c.in_ok-label.label; len = c.len.result; tree = seen c.shareable.result } in
    record {
      list = subst IsList (sym c.in_ok-split_off.ensures.items)
          (list_take es n c.requires.list c.requires.some (omega (arith, c.requires.within)));
      halves = subst (λ xs. AreHalves g.L.Label.label_of (es, 0) (xs, 0) right) (sym c.in_ok-split_off.ensures.items)
          (leaves_are es n c.index.result.now right c.requires.some c.requires.within len is label);
      kept = omega (arith, ap (λ xs. length xs) c.in_ok-split_off.ensures.items, length-take n es, c.requires.within);
      refused = tt;
    }
