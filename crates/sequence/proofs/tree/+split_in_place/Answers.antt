-- The child around the place is two, and each part of the branch has enough items.
use Rattle.std.proofs.Common.{◌≡◌, ◌+◌, ◌-◌, ◌≤◌, ◌∙◌, ◌^◌, ◌<◌, ℕ, ap, arith, get_or, length, refl, set, subst}
use Rattle.std.proofs.Common.{sym, take}
use Rattle.std.proofs.lemmas.Nat.{pow_pos}
use Rattle.std.proofs.lemmas.Result.{MatchResult-from_err}
use Rattle.std.specs.Prelude.{IsOk, Ok, is_ok}
use Rattle.std.specs.List.{insert}
use Rattle.sequence.specs.declared.tree.Child.{Child}
use Rattle.sequence.specs.declared.tree.Node.TheVariants.{Branch, Leaf}
use Rattle.sequence.specs.Nodes.{AreChildren, IsChild, IsNode, StandFor, height_in, items_in, seen}
use Rattle.sequence.specs.Spots.{IsEdge, Leads}
use Rattle.sequence.proofs.Calls.{kept_at}
use Rattle.sequence.proofs.Nodes.Copied.{IsMade, made}
use Rattle.sequence.proofs.Nodes.Placed.{child_here, left_in, stand_itself, stand_on}
use Rattle.sequence.proofs.Nodes.Wide.{height_some}
use Rattle.sequence.proofs.Shapes.Edges.{cut_stands, cut_through, edge_between, edge_here, part_asks, wide_at}
use Rattle.sequence.proofs.Shapes.Edges.{wide_kept, wide_within}
use Rattle.sequence.proofs.tree.+split_in_place.Goals as goal
use Rattle.sequence.proofs.tree.+split_in_place.Given as given
use Rattle.sequence.proofs.tree.+split_in_place.Goals.{Tree::split_in_place-In-Branch, Tree::split_in_place-In-Leaf}
use Rattle.sequence.proofs.tree.+split_in_place.Goals.{Tree::split_in_place-in-Branch}
use Rattle.sequence.proofs.tree.+split_in_place.Goals.{Tree::split_in_place-in-Leaf+in_ok-split_leaf-in-Leaf}

pub Tree::split_in_place-invariant_of-self : goal.Tree::split_in_place-invariant_of-self
Tree::split_in_place-invariant_of-self g t c =
    subst (IsNode g.L.Label.label_of) (sym (kept_at c.make_mut.result c.in_err-items.field-0.0 c.in_err-items.was
    c.make_mut.follows.holds-at-none)) c.self.invariant

pub Tree::split_in_place-returns-in_err-items : goal.Tree::split_in_place-returns-in_err-items
Tree::split_in_place-returns-in_err-items g t c =
    MatchResult-from_err c.from_residual.result _ _ c.from_residual.ensures.0
    (λ _. ap (λ node. seen node) (kept_at c.make_mut.result c.in_err-items.field-0.0 c.in_err-items.was
    c.make_mut.follows.holds-at-none) ∙ c.self.view_is)

-- the branch is whole, and has what the tree has
branch : (g : given.Over) (t : ℕ) (c : Tree::split_in_place-In-Branch g t)
    → IsMade g.L.Label.label_of c.args.self.now (Branch c.in-Branch.children)
branch g t c =
    rw c.in-Branch.is at (made g.L.Label.label_of c.args.self.now c.self.inside.root c.in_ok-items.field-0.now
    c.self.invariant c.self.view_is c.in_ok-items.ensures.value c.requires.copies)

-- the leaf too
leaf : (g : given.Over) (t : ℕ) (c : Tree::split_in_place-In-Leaf g t)
    → IsMade g.L.Label.label_of c.args.self.now (Leaf c.in-Leaf.items)
leaf g t c =
    rw c.in-Leaf.is at (made g.L.Label.label_of c.args.self.now c.self.inside.root c.in_ok-items.field-0.now
    c.self.invariant c.self.view_is c.in_ok-items.ensures.value c.requires.copies)

pub Tree::split_in_place-split_leaf-requires-clause-some : goal.Tree::split_in_place-split_leaf-requires-clause-some
Tree::split_in_place-split_leaf-requires-clause-some g t c =
    omega (arith, c.requires.least, c.requires.front, pow_pos c.args.self.now.1)

pub Tree::split_in_place-split_leaf-requires-clause-within :
    goal.Tree::split_in_place-split_leaf-requires-clause-within
Tree::split_in_place-split_leaf-requires-clause-within g t c =
    let node = leaf g t (goal.at.Tree::split_in_place-split_leaf-requires-clause-within g t c).In-Leaf in
    omega (arith, c.requires.least, c.requires.back, pow_pos c.args.self.now.1, ap (λ t. length t.0) node.same)

pub Tree::split_in_place-split_children-requires : goal.Tree::split_in_place-split_children-requires
Tree::split_in_place-split_children-requires g t c κs within =
    let node = branch g t (goal.at.Tree::split_in_place-split_children-requires g t c).In-Branch in
    let high = ap (λ t. t.1) node.same in
    let least = c.requires.least ∙ ap (λ h. 2 ^ h) (sym high) in
    let back : c.args.place + c.args.least ≤ length (items_in c.in-Branch.children.items) =
    omega (arith, c.requires.back, ap (λ t. length t.0) node.same) in (
      omega (arith, c.decreases, high, height_some c.in-Branch.children.items node.whole),
      (within.0, (within.1, (c.requires.copies, (node.whole, (least, (c.requires.front, back)))))),
    )

pub Tree::split_in_place-invariant_of-self-in_err-split_leaf-in-Leaf :
    goal.Tree::split_in_place-invariant_of-self-in_err-split_leaf-in-Leaf
Tree::split_in_place-invariant_of-self-in_err-split_leaf-in-Leaf g t c =
    subst (IsNode g.L.Label.label_of) (sym (c.make_mut.follows.holds (Leaf c.split_leaf.new.items)
    (ap (λ r. is_ok r) c.in_ok-items.was))) c.in_err-split_leaf-in-Leaf.ensures.list

pub Tree::split_in_place-returns-in_err-split_leaf-in-Leaf :
    goal.Tree::split_in_place-returns-in_err-split_leaf-in-Leaf
Tree::split_in_place-returns-in_err-split_leaf-in-Leaf g t c =
    let node = leaf g t (goal.at.Tree::split_in_place-returns-in_err-split_leaf-in-Leaf g t c).In-Leaf in
    let failed = c.from_residual-in_err-split_leaf-in-Leaf in
    MatchResult-from_err failed.result _ _ failed.ensures.0
    (λ _. ap (λ node. seen node) (c.make_mut.follows.holds (Leaf c.split_leaf.new.items)
    (ap (λ r. is_ok r) c.in_ok-items.was)) ∙ ap (λ es. (es, 0)) c.in_err-split_leaf-in-Leaf.ensures.refused
    ∙ node.same)

pub Tree::split_in_place-invariant_of-self-2 : goal.Tree::split_in_place-invariant_of-self-2
Tree::split_in_place-invariant_of-self-2 g t c =
    let ok : IsOk c.make_mut.result = ap (λ r. is_ok r) c.in_ok-items.was in
    elim c.match-branch-2.branch [
      | Tree::split_in_place-in-Leaf+in_ok-split_leaf-in-Leaf w ↦
          subst (λ inside. IsNode g.L.Label.label_of inside.root) (sym w.self-inside-is)
          (subst (IsNode g.L.Label.label_of) (sym (c.make_mut.follows.holds (Leaf w.split_leaf.new.items) ok))
          w.in_ok-split_leaf-in-Leaf.ensures.list)
      | Tree::split_in_place-in-Branch w ↦
          subst (λ inside. IsNode g.L.Label.label_of inside.root) (sym w.self-inside-is)
          (subst (IsNode g.L.Label.label_of) (sym (c.make_mut.follows.holds (Branch w.split_children.new.children) ok))
          w.split_children.ensures.children)
    ]

pub split_in_place::edge_at-spot_of-child-requires-clause-children :
    goal.split_in_place::edge_at-spot_of-child-requires-clause-children
split_in_place::edge_at-spot_of-child-requires-clause-children g t c =
    subst (AreChildren g.L.Label.label_of) (sym c.deref.ensures.value) c.requires.children

pub split_in_place::edge_at-spot_of-child-requires-clause-within :
    goal.split_in_place::edge_at-spot_of-child-requires-clause-within
split_in_place::edge_at-spot_of-child-requires-clause-within g t c =
    let within : c.args.place + 1 ≤ length (items_in c.args.children.now.items) = omega (arith, c.requires.within) in
    subst (λ cs. c.args.place + 1 ≤ length (items_in cs)) (sym c.deref.ensures.value) within

pub split_in_place::edge_at-split_in_place-requires : goal.split_in_place::edge_at-split_in_place-requires
split_in_place::edge_at-split_in_place-requires g t c κs within =
    let cs = c.args.children.now.items in
    let spot = c.spot_of-child.result in
    let leads : Leads cs (c.args.place + 1) spot =
    subst (λ xs. Leads xs (c.args.place + 1) spot) c.deref.ensures.value c.spot_of-child.ensures in
    let d = c.index_mut-left.result.now in
    let is = c.index_mut-left.ensures.value ∙ ap (λ cs. get_or cs spot.child d) c.in_ok-reserve.ensures.items in
    let asks = part_asks cs c.args.place c.args.least spot d c.index.result.now c.requires.children leads is
    c.index.ensures c.requires.least c.if-place-least.false c.if-index-place.false in
    let level = (c.requires.children.each spot.child d leads.within).level in (
      omega (arith, c.decreases, ap (λ child. child.tree.1) is, level),
      (within.0, (within.1, (c.requires.copies, asks))),
    )

pub split_in_place::edge_at-overflow_sub-place : goal.split_in_place::edge_at-overflow_sub-place
split_in_place::edge_at-overflow_sub-place g t c = omega (arith, c.spot_of-child.ensures.inner (omega arith))

pub split_in_place::edge_at-overflow_sub-index : goal.split_in_place::edge_at-overflow_sub-index
split_in_place::edge_at-overflow_sub-index g t c =
    let cs = c.args.children.now.items in
    let spot = c.spot_of-child.result in
    let leads : Leads cs (c.args.place + 1) spot =
    subst (λ xs. Leads xs (c.args.place + 1) spot) c.deref.ensures.value c.spot_of-child.ensures in
    let d = c.index.result.now in
    let old = child_here cs spot.child d c.requires.children leads.within c.index.ensures in
    omega (arith, leads.inside d, old.counted, ap (λ child. length child.tree.0) c.index.ensures)

pub split_in_place::edge_at-overflow_add-child : goal.split_in_place::edge_at-overflow_add-child
split_in_place::edge_at-overflow_add-child g t c =
    let within = subst (λ xs. c.spot_of-child.result.child < length xs) c.deref.ensures.value
    c.spot_of-child.ensures.within in
    let v = c.reserve.new.self in
    omega (arith, within, ap (λ cs. length cs) c.in_ok-reserve.ensures.items, v.ok, v.small)

pub split_in_place::edge_at-overflow_add-result : goal.split_in_place::edge_at-overflow_add-result
split_in_place::edge_at-overflow_add-result g t c =
    let within = subst (λ xs. c.spot_of-child.result.child < length xs) c.deref.ensures.value
    c.spot_of-child.ensures.within in
    let v = c.reserve.new.self in
    omega (arith, within, ap (λ cs. length cs) c.in_ok-reserve.ensures.items, v.ok, v.small)

pub split_in_place::edge_at-unreachable-requires : goal.split_in_place::edge_at-unreachable-requires
split_in_place::edge_at-unreachable-requires g t c =
    omega (arith, c.in_ok-reserve.ensures.ok, c.in_default.ensures.full)

pub split_in_place::edge_at-returns : goal.split_in_place::edge_at-returns
split_in_place::edge_at-returns g t c =
    let cs = c.args.children.now.items in
    let spot = c.spot_of-child.result in
    let leads : Leads cs (c.args.place + 1) spot =
    subst (λ xs. Leads xs (c.args.place + 1) spot) c.deref.ensures.value c.spot_of-child.ensures in
    let d = c.index_mut-left.result.now in
    let room = c.in_ok-reserve.ensures.items in
    let is = c.index_mut-left.ensures.value ∙ ap (λ cs. get_or cs spot.child d) room in
    let done = c.in_ok-right.ensures in
    let r = c.in_ok-right.right in
    let l : Child g.row.T.Denot g.row.L.Denot =
    record { label = d.label; len = spot.place - 1; tree = c.split_in_place.new.self } in
    let items = c.in-Ok.ensures.items ∙ ap (λ xs. insert (set xs spot.child l) (spot.child + 1) r) room in
    let child : IsChild (d.tree.1 + 1) l =
    record { counted = sym done.1; level = ap (λ n. n + 1) done.0.height; wide = done.0.wide } in
    subst (λ xs. StandFor g.L.Label.label_of cs xs × IsEdge xs c.args.place (spot.child + 1)) (sym items)
    (edge_between cs spot.child d l r c.requires.children leads.within is child done.0 refl c.args.place
    (omega (arith, leads.is, done.1, c.if-place-eq0.false)))

pub split_in_place::edge_at-returns-then-place-eq0 : goal.split_in_place::edge_at-returns-then-place-eq0
split_in_place::edge_at-returns-then-place-eq0 g t c =
    let cs = c.args.children.now.items in
    let spot = c.spot_of-child.result in
    let leads : Leads cs (c.args.place + 1) spot =
    subst (λ xs. Leads xs (c.args.place + 1) spot) c.deref.ensures.value c.spot_of-child.ensures in (
      stand_itself cs c.requires.children,
      edge_here cs c.args.place spot.child c.requires.some
          (omega (arith, leads.is, leads.inner (omega arith), c.if-place-eq0.true)),
    )

pub split_in_place::edge_at-returns-in_err-reserve : goal.split_in_place::edge_at-returns-in_err-reserve
split_in_place::edge_at-returns-in_err-reserve g t c =
    let cs = c.args.children.now.items in
    let failed = c.from_residual in
    MatchResult-from_err failed.result _ _ failed.ensures.0
    (λ _. subst (StandFor g.L.Label.label_of cs) (sym c.reserve.ensures.items) (stand_itself cs c.requires.children))

pub split_in_place::edge_at-returns-in_err-right : goal.split_in_place::edge_at-returns-in_err-right
split_in_place::edge_at-returns-in_err-right g t c =
    let cs = c.args.children.now.items in
    let i = c.spot_of-child.result.child in
    let within = subst (λ xs. i < length xs) c.deref.ensures.value c.spot_of-child.ensures.within in
    let d = c.index_mut-left.result.now in
    let new = c.split_in_place.new.self in
    let room = c.in_ok-reserve.ensures.items in
    let same = c.in_err-right.ensures in
    let failed = c.from_residual-in_err-right in
    MatchResult-from_err failed.result _ _ failed.ensures.0
    (λ _. subst (λ xs. StandFor g.L.Label.label_of cs (set xs i (record d { tree = new }))) (sym room)
    (left_in cs i d c.requires.children within
    (c.index_mut-left.ensures.value ∙ ap (λ xs. get_or xs i d) room) new (ap (λ t. t.0) same) (ap (λ t. t.1) same)))

pub split_in_place::split_children-edge_at-requires : goal.split_in_place::split_children-edge_at-requires
split_in_place::split_children-edge_at-requires g t c κs within =
    let wide = pow_pos (height_in c.args.children.now.items) in
    let some : 0 < c.args.place = omega (arith, c.requires.least, c.requires.front, wide) in
    let behind : c.args.place < length (items_in c.args.children.now.items) =
    omega (arith, c.requires.least, c.requires.back, wide) in (
      omega (arith, c.decreases, height_some c.args.children.now.items c.requires.children),
      (within.0, (within.1, (c.requires.copies, (c.requires.children, (c.requires.least, (some, behind)))))),
    )

pub split_in_place::split_children-overflow_add-at : goal.split_in_place::split_children-overflow_add-at
split_in_place::split_children-overflow_add-at g t c =
    let there = c.edge_at.new.children in
    let same = c.in_ok-at.ensures.0 in
    let at = c.in_ok-at.at in
    let within = wide_within there.items at (wide_at there.items at c.args.place c.args.least c.in_ok-at.ensures.1
    (c.requires.least ∙ ap (λ n. 2 ^ n) (sym same.height)) c.requires.front
    (omega (arith, c.requires.back, ap (λ es. length es) same.items))) in
    omega (arith, within, there.ok, there.small)

pub split_in_place::split_children-overflow_sub-at : goal.split_in_place::split_children-overflow_sub-at
split_in_place::split_children-overflow_sub-at g t c = omega (arith, c.in_ok-at.ensures.1.some)

pub split_in_place::split_children-join_before-requires-clause-children :
    goal.split_in_place::split_children-join_before-requires-clause-children
split_in_place::split_children-join_before-requires-clause-children g t c = c.in_ok-at.ensures.0.children

pub split_in_place::split_children-join_before-requires-2-clause-children :
    goal.split_in_place::split_children-join_before-requires-2-clause-children
split_in_place::split_children-join_before-requires-2-clause-children g t c = c.split_branch.ensures.children

pub split_in_place::split_children-split_branch-requires-clause-children :
    goal.split_in_place::split_children-split_branch-requires-clause-children
split_in_place::split_children-split_branch-requires-clause-children g t c = c.join_before.ensures.same.children

pub split_in_place::split_children-split_branch-requires-clause-some :
    goal.split_in_place::split_children-split_branch-requires-clause-some
split_in_place::split_children-split_branch-requires-clause-some g t c = c.in_ok-at.ensures.1.some

pub split_in_place::split_children-returns-clause-children :
    goal.split_in_place::split_children-returns-clause-children
split_in_place::split_children-returns-clause-children g t c = c.join_before-2.ensures.same.children

pub split_in_place::split_children-returns-in_err-right-clause-children :
    goal.split_in_place::split_children-returns-in_err-right-clause-children
split_in_place::split_children-returns-in_err-right-clause-children g t c = c.split_branch.ensures.children

pub split_in_place::split_children-split_branch-requires-clause-sides :
    goal.split_in_place::split_children-split_branch-requires-clause-sides
split_in_place::split_children-split_branch-requires-clause-sides g t c =
    let there = c.edge_at.new.children.items in
    let same = c.in_ok-at.ensures.0 in
    let at = c.in_ok-at.at in
    let new = c.join_before.new.children.items in
    let next : at + 1 - 1 ≡ at = omega arith in
    wide_kept there new at c.join_before.ensures.same
    (subst (λ n. take n new ≡ take n there) next c.join_before.ensures.before)
    (wide_at there at c.args.place c.args.least c.in_ok-at.ensures.1
    (c.requires.least ∙ ap (λ n. 2 ^ n) (sym same.height)) c.requires.front
    (omega (arith, c.requires.back, ap (λ es. length es) same.items)))

pub split_in_place::split_children-split_branch-requires-clause-within :
    goal.split_in_place::split_children-split_branch-requires-clause-within
split_in_place::split_children-split_branch-requires-clause-within g t c =
    wide_within c.join_before.new.children.items c.in_ok-at.at
    (split_in_place::split_children-split_branch-requires-clause-sides g t c)

pub split_in_place::split_children-returns-clause-cut : goal.split_in_place::split_children-returns-clause-cut
split_in_place::split_children-returns-clause-cut g t c =
    let there = c.edge_at.new.children.items in
    let at = c.in_ok-at.at in
    let new = c.join_before.new.children.items in
    let next : at + 1 - 1 ≡ at = omega arith in
    let done = c.in_ok-right.ensures in
    cut_through {E = Unit {0}} c.args.children.now.items there c.join_before-2.new.children.items c.args.place at
    c.in_ok-at.ensures.0 c.in_ok-at.ensures.1 (Ok c.in_ok-right.right)
    (cut_stands there new c.split_branch.new.children.items c.join_before-2.new.children.items c.in_ok-right.right at
    c.join_before.ensures.same (subst (λ n. take n new ≡ take n there) next c.join_before.ensures.before) done.kept
    done.halves c.join_before-2.ensures.same)

pub split_in_place::split_children-returns-in_err-right-clause-cut :
    goal.split_in_place::split_children-returns-in_err-right-clause-cut
split_in_place::split_children-returns-in_err-right-clause-cut g t c =
    let cs = c.args.children.now.items in
    let there = c.edge_at.new.children.items in
    let left = c.split_branch.new.children.items in
    let failed = c.from_residual-in_err-right in
    MatchResult-from_err failed.result _ _ failed.ensures.0
    (λ _. stand_on cs there left c.in_ok-at.ensures.0
    (subst (StandFor g.L.Label.label_of there) (sym c.in_err-right.ensures.refused) c.join_before.ensures.same))
