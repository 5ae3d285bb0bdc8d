-- The item is changed in the child that has it.
use Rattle.std.proofs.Common.{◌≡◌, ◌+◌, ◌∙◌, ℕ, ap, arith, length, length-set, refl, set, subst, sym}
use Rattle.std.specs.Prelude.{MatchResult, Some, is_ok, slice_get}
use Rattle.std.proofs.lemmas.Option.{slice_get_read}
use Rattle.std.proofs.lemmas.Result.{MatchResult-from_err}
use Rattle.sequence.specs.declared.tree.Node.{Node}
use Rattle.sequence.specs.declared.tree.Node.TheVariants.{Branch, Leaf}
use Rattle.sequence.specs.Changes.{ChangesItem}
use Rattle.sequence.specs.Nodes.{AreChildren, IsNode, items_in, seen}
use Rattle.sequence.specs.Spots.{Leads}
use Rattle.sequence.proofs.Calls.{kept_at}
use Rattle.sequence.proofs.Nodes.Changed.{IsChanged, asked_below, changed_at, spot_inside}
use Rattle.sequence.proofs.Nodes.Copied.{IsMade, made}
use Rattle.sequence.proofs.tree.Tree.+modify.Given as given
use Rattle.sequence.proofs.tree.Tree.+modify.Goals as goal
use Rattle.sequence.proofs.tree.Tree.+modify.Goals.{After-index_mut, After-modify, In-Branch, In-Leaf, In_ok-items}

-- the first node of the tree is then what was written there
written : (g : given.Over) (t : ℕ) (c : In_ok-items g t) (node : Node g.row.T.Denot g.row.L.Denot)
    → c.make_mut.follows.lender node ≡ node
written g t c node = c.make_mut.follows.holds node (ap (λ r. is_ok r) c.in_ok-items.was)

-- the branch is whole, and has what the tree has
branch : (g : given.Over) (t : ℕ) (c : In-Branch g t)
    → IsMade g.L.Label.label_of c.args.self.now (Branch c.in-Branch.children)
branch g t c =
    rw c.in-Branch.is at (made g.L.Label.label_of c.args.self.now c.self.inside.root c.in_ok-items.field-0.now
    c.self.invariant c.self.view_is c.in_ok-items.ensures.value c.requires.copies)

-- the leaf is whole, and has what the tree has
leaf : (g : given.Over) (t : ℕ) (c : In-Leaf g t)
    → IsMade g.L.Label.label_of c.args.self.now (Leaf c.in-Leaf.items)
leaf g t c =
    rw c.in-Leaf.is at (made g.L.Label.label_of c.args.self.now c.self.inside.root c.in_ok-items.field-0.now
    c.self.invariant c.self.view_is c.in_ok-items.ensures.value c.requires.copies)

-- the item there is the one that the leaf lends
found : (g : given.Over) (t : ℕ) (c : After-index_mut g t)
    → slice_get c.args.self.now.0 c.args.index ≡ Some c.index_mut.result.now
found g t c =
    let node = rw c.in-Leaf.is at (made g.L.Label.label_of c.args.self.now c.self.inside.root
    c.in_ok-items.field-0.now c.self.invariant c.self.view_is c.in_ok-items.ensures.value c.requires.copies) in
    let same = ap (λ t. t.0) node.same in
    let es = c.in-Leaf.items.items in
    let at = c.args.index in
    ap (λ es. slice_get es at) (sym same) ∙ slice_get_read es (length es) at c.index_mut.result.now refl
    (omega (arith, ap (λ es. length es) same, c.requires.there)) c.index_mut.ensures.value

pub change-requires : goal.change-requires
change-requires g t c =
    c.requires.callable c.index_mut.result.now (found g t (goal.at.change-requires g t c).After-index_mut)
    c.index_mut.result refl

pub overflow_add-index : goal.overflow_add-index
overflow_add-index g t c =
    let node = branch g t (goal.at.overflow_add-index g t c).In-Branch in
    omega (arith, ap (λ t. length t.0) node.same, node.whole.list.room, c.requires.there)

pub spot_of-spot-requires-clause-within : goal.spot_of-spot-requires-clause-within
spot_of-spot-requires-clause-within g t c =
    let node = branch g t (goal.at.spot_of-spot-requires-clause-within g t c).In-Branch in
    let long = ap (λ cs. length (items_in cs)) c.deref.ensures.value in
    omega (arith, long, ap (λ t. length t.0) node.same, c.requires.there)

pub overflow_sub-spot : goal.overflow_sub-spot
overflow_sub-spot g t c = c.spot_of-spot.ensures.inner (omega (arith))

pub invariant_of-self-in-Leaf : goal.invariant_of-self-in-Leaf
invariant_of-self-in-Leaf g t c =
    let node = leaf g t (goal.at.invariant_of-self-in-Leaf g t c).In-Leaf in
    let many = length-set c.in-Leaf.items.items c.args.index c.change.new.arg2 in
    subst (IsNode g.L.Label.label_of) (sym (written g t (goal.at.invariant_of-self-in-Leaf g t c).In_ok-items _))
    (record { some = omega (arith, many, node.whole.some); room = omega (arith, many, node.whole.room) })

pub returns-in-Leaf : goal.returns-in-Leaf
returns-in-Leaf g t c =
    let node = leaf g t (goal.at.returns-in-Leaf g t c).In-Leaf in
    let at = c.args.index in
    let after = c.change.new.arg2 in
    let is = ap (λ node. seen node) (written g t (goal.at.returns-in-Leaf g t c).In_ok-items _) in (
      record {
        before = c.index_mut.result.now;
        after = after;
        found = found g t (goal.at.returns-in-Leaf g t c).After-index_mut;
        called = record { shown = _; shows = refl; left = _; met = c.change.ensures; leaves = refl };
        items = (λ i. (is i).0) ∙ (λ i. set (node.same i).0 at after);
      },
      (λ i. (is i).1) ∙ (λ i. (node.same i).1),
    )

pub spot_of-spot-requires-clause-children : goal.spot_of-spot-requires-clause-children
spot_of-spot-requires-clause-children g t c =
    let node = branch g t (goal.at.spot_of-spot-requires-clause-children g t c).In-Branch in
    subst (AreChildren g.L.Label.label_of) (sym c.deref.ensures.value) node.whole

pub modify-requires : goal.modify-requires
modify-requires g t c κs within =
    let tree = c.args.self.now in
    let node = branch g t (goal.at.modify-requires g t c).In-Branch in
    let cs = c.in-Branch.children.items in
    let spot = c.spot_of-spot.result in
    let leads = subst (λ cs. Leads cs (c.args.index + 1) spot) c.deref.ensures.value c.spot_of-spot.ensures in
    let d = c.index_mut-2.result.now in
    let is = c.index_mut-2.ensures.value in
    let high = ap (λ child. child.tree.1) is in
    let level = (node.whole.each spot.child d leads.within).level in
    let there = spot_inside tree cs spot d node.whole node.same c.args.index leads is in
    let callable = asked_below tree cs spot d node.whole node.same c.args.index leads is c.requires.callable in
    let keeps = asked_below tree cs spot d node.whole node.same c.args.index leads is c.requires.keeps in (
      omega (arith, c.decreases, ap (λ t. t.1) node.same, high, level),
      (within.0, (within.1.0, (within.1.1.0, (within.1.1.1, (c.requires.copies, (there, (callable, keeps))))))),
    )

-- the branch then
done : (g : given.Over) (t : ℕ) (c : After-modify g t)
    → IsMade g.L.Label.label_of c.args.self.now (Branch c.in-Branch.children)
    → IsChanged g.L.Label.label_of c.args.self.now c.args.index g.F.FnOnce c.args.change
    (set c.in-Branch.children.items c.spot_of-spot.result.child
    (record c.index_mut-2.result.now { tree = c.modify.new.self })) c.modify.result
done g t c node =
    changed_at c.args.self.now c.in-Branch.children.items c.spot_of-spot.result c.index_mut-2.result.now node.whole
    node.same c.args.index (subst (λ cs. Leads cs (c.args.index + 1) c.spot_of-spot.result) c.deref.ensures.value
    c.spot_of-spot.ensures) c.index_mut-2.ensures.value g.F.FnOnce c.args.change c.modify.new.self c.modify.result
    c.modify.ensures c.requires.keeps

pub invariant_of-self-2 : goal.invariant_of-self-2
invariant_of-self-2 g t c =
    let at = goal.at.invariant_of-self-2 g t c in
    subst (IsNode g.L.Label.label_of) (sym (written g t at.In_ok-items _))
    (done g t at.After-modify (branch g t at.In-Branch)).whole

pub returns : goal.returns
returns g t c =
    let at = goal.at.returns g t c in
    let tree = c.args.self.now in
    subst (λ node. MatchResult c.modify.result
    (λ back. ChangesItem g.F.FnOnce c.args.change c.args.index tree.0 (seen node).0 back × ((seen node).1 ≡ tree.1))
    (λ _. seen node ≡ tree)) (sym (written g t at.In_ok-items _))
    (done g t at.After-modify (branch g t at.In-Branch)).done

pub invariant_of-self : goal.invariant_of-self
invariant_of-self g t c =
    subst (IsNode g.L.Label.label_of) (sym (kept_at c.make_mut.result c.in_err-items.field-0.0 c.in_err-items.was
    c.make_mut.follows.holds-at-none)) c.self.invariant

pub returns-in_err-items : goal.returns-in_err-items
returns-in_err-items g t c =
    MatchResult-from_err c.from_residual.result _ _ c.from_residual.ensures.0
    (λ _. ap (λ node. seen node) (kept_at c.make_mut.result c.in_err-items.field-0.0 c.in_err-items.was
    c.make_mut.follows.holds-at-none) ∙ c.self.view_is)
