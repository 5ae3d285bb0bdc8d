use Rattle.std.proofs.Common.{◌+◌, ◌∙◌, ap, arith, refl, set, subst, sym, take}
use Rattle.std.specs.List.{insert}
use Rattle.sequence.specs.Nodes.{StandFor}
use Rattle.sequence.proofs.Shapes.Joined.{IsJoined, back, child_of_both, fits_behind, joined_is, pair_are, taken}
use Rattle.sequence.proofs.Nodes.Placed.{stand_itself}
use Rattle.sequence.proofs.tree.join.join_children.Goals as goal

pub take_over-requires-clause-fits : goal.take_over-requires-clause-fits
take_over-requires-clause-fits g c =
    let cs = c.args.children.now.items in
    let at = c.args.at in
    let d = c.index_mut-child.result.now in
    let e = c.remove-label.result in
    let two = taken cs _ _ at d e c.requires.within c.in_ok-reserve.ensures.items c.remove-label.ensures.items
    c.index_mut-child.ensures.value c.remove-label.ensures.value in
    (fits_behind d e (pair_are cs at d e c.requires.children c.requires.within two.first two.second)).follows

pub overflow_add-child : goal.overflow_add-child
overflow_add-child g c =
    let cs = c.args.children.now.items in
    let at = c.args.at in
    let d = c.index_mut-child.result.now in
    let e = c.remove-label.result in
    let two = taken cs _ _ at d e c.requires.within c.in_ok-reserve.ensures.items c.remove-label.ensures.items
    c.index_mut-child.ensures.value c.remove-label.ensures.value in
    let room = (fits_behind d e (pair_are cs at d e c.requires.children c.requires.within two.first two.second)).room in
    omega (arith, room)

pub returns-in_default : goal.returns-in_default
returns-in_default g c =
    let cs = c.args.children.now.items in
    let at = c.args.at in
    let d = c.index_mut-child.result.now in
    let e = c.remove-label.result in
    let new = record d { len = d.len + e.len; tree = c.take_over.new.self } in
    let within = c.requires.within in
    let are = c.requires.children in
    let two = taken cs _ _ at d e within c.in_ok-reserve.ensures.items c.remove-label.ensures.items
    c.index_mut-child.ensures.value c.remove-label.ensures.value in
    let child = child_of_both d e new (pair_are cs at d e are within two.first two.second) refl c.in_default.ensures in
    let joined = ap (λ t. t.0) c.in_default.ensures in
    let done = subst (λ xs. IsJoined cs at d e are within two.first two.second new child joined refl (set xs at new))
    (sym two.left) (joined_is cs at d e are within two.first two.second new child joined refl) in
    record { same = done.same; before = done.front; first = done.first; second = done.second; spare = done.spare }

pub returns : goal.returns
returns g c =
    let cs = c.args.children.now.items in
    let at = c.args.at in
    let d = c.index_mut-child.result.now in
    let e = c.remove-label.result in
    let two = taken cs _ _ at d e c.requires.within c.in_ok-reserve.ensures.items c.remove-label.ensures.items
    c.index_mut-child.ensures.value c.remove-label.ensures.value in
    let first = record d { tree = c.take_over.new.self } in
    let second = record e { label = c.take_over.new.label; tree = c.in-Err.tree } in
    let own = ap (λ tree. record d { tree = tree }) c.in-Err.ensures.0 ∙ two.first in
    let other = (λ i. record e { label = c.in-Err.ensures.1.0 i; tree = c.in-Err.ensures.1.1 i }) ∙ two.second in
    let same = c.in-Ok.ensures.items
    ∙ ap (λ xs. insert (set xs at first) (at + 1) second) two.left
    ∙ back cs at d e first second c.requires.within own other in
    record {
      same = subst (StandFor g.L.Label.label_of cs) (sym same) (stand_itself cs c.requires.children);
      before = ap (λ xs. take at xs) same;
      first = tt;
      second = tt;
      spare = tt;
    }
