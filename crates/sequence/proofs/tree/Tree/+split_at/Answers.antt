-- The children before the cut and behind it, and the two lists of the child that is cut.
use Rattle.std.proofs.Common.{◌≡◌, ◌+◌, ◌≤◌, ◌++◌, ◌∙◌, ap, arith, drop, get_or, length, subst, sym, take}
use Rattle.std.specs.Prelude.{IfOk}
use Rattle.sequence.specs.Nodes.{AreChildren, IsNode, items_in, seen}
use Rattle.sequence.specs.Spots.{Leads}
use Rattle.sequence.proofs.Shapes.Parted.{back_is, front_is}
use Rattle.sequence.proofs.tree.Tree.+split_at.Goals as goal

pub lists_around-requires-clause-children : goal.lists_around-requires-clause-children
lists_around-requires-clause-children g t c =
    subst (AreChildren g.L.Label.label_of) (sym c.deref-3.ensures.value) (rw c.in-Branch.is at c.node.ensures.whole)

pub spot_of-spot-requires-clause-children : goal.spot_of-spot-requires-clause-children
spot_of-spot-requires-clause-children g t c =
    subst (AreChildren g.L.Label.label_of) (sym c.deref-2.ensures.value)
    (subst (IsNode g.L.Label.label_of) c.in-Branch.is c.node.ensures.whole)

pub spot_of-spot-requires-clause-within : goal.spot_of-spot-requires-clause-within
spot_of-spot-requires-clause-within g t c =
    let same = subst (λ node. seen node ≡ c.args.self.now) c.in-Branch.is c.node.ensures.same in
    let within : c.args.at ≤ length (items_in c.in-Branch.children.items) =
    omega (arith, c.requires.within, ap (λ t. length t.0) same) in
    subst (λ cs. c.args.at ≤ length (items_in cs)) (sym c.deref-2.ensures.value) within

pub split_at-requires : goal.split_at-requires
split_at-requires g t c κs within =
    let spot = c.spot_of-spot.result in
    let d = c.index.result.now in
    let same = subst (λ node. seen node ≡ c.args.self.now) c.in-Branch.is c.node.ensures.same in
    let are = subst (IsNode g.L.Label.label_of) c.in-Branch.is c.node.ensures.whole in
    let leads = subst (λ cs. Leads cs c.args.at spot) c.deref-2.ensures.value c.spot_of-spot.ensures in
    let level = (are.each spot.child d leads.within).level in
    let is = c.index.ensures in
    let inside : spot.place ≤ length d.tree.0 = omega (arith, leads.inside d, ap (λ child. length child.tree.0) is) in (
      omega (arith, c.decreases, ap (λ t. t.1) same, ap (λ child. child.tree.1) is, level),
      (within.0, (within.1, (c.requires.copies, inside))),
    )

pub returns : goal.returns
returns g t c =
    let cs = c.in-Branch.children.items in
    let at = c.args.at in
    let spot = c.spot_of-spot.result in
    let d = c.index.result.now in
    let same = subst (λ node. seen node ≡ c.args.self.now) c.in-Branch.is c.node.ensures.same in
    let leads = subst (λ cs. Leads cs at spot) c.deref-2.ensures.value c.spot_of-spot.ensures in
    let around = c.in_ok-around.around in
    let within = c.in_ok-within.within in
    let all = c.args.self.now.0 in
    let outer = c.deref-3.ensures.value in
    let inner = c.index.ensures in
    let front : around.0 ++ within.0 ≡ take at all =
    ap (λ es. es ++ within.0) (c.in_ok-around.ensures.0 ∙ ap (λ xs. items_in (take spot.child xs)) outer)
    ∙ ap (λ es. items_in (take spot.child cs) ++ es) (c.in_ok-within.ensures.0
    ∙ ap (λ child. take spot.place child.tree.0) inner)
    ∙ front_is cs at spot d leads ∙ ap (λ t. take at t.0) same in
    let back : within.1 ++ around.1 ≡ drop at all =
    ap (λ es. es ++ around.1) (c.in_ok-within.ensures.1 ∙ ap (λ child. drop spot.place child.tree.0) inner)
    ∙ ap (λ es. drop spot.place (get_or cs spot.child d).tree.0 ++ es) (c.in_ok-around.ensures.1
    ∙ ap (λ xs. items_in (drop (spot.child + 1) xs)) outer)
    ∙ back_is cs at spot d leads ∙ ap (λ t. drop at t.0) same in
    subst (λ es. IfOk c.append_parts.result (λ lists. (lists.0 ≡ es) × (lists.1 ≡ drop at all))) front
    (subst (λ es. IfOk c.append_parts.result (λ lists. (lists.0 ≡ around.0 ++ within.0) × (lists.1 ≡ es))) back
    c.append_parts.ensures)

pub returns-in-Leaf : goal.returns-in-Leaf
returns-in-Leaf g t c =
    let same = c.deref.ensures.value ∙ ap (λ t. t.0) (rw c.in-Leaf.is at c.node.ensures.same) in
    subst (λ es. IfOk c.lists_of.result (λ lists. (lists.0 ≡ take c.args.at es) × (lists.1 ≡ drop c.args.at es))) same
    c.lists_of.ensures
