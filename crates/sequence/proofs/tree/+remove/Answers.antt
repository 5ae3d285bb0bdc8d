-- The branch lets the item go out of one child.
use Rattle.std.proofs.Common.{◌≡◌, ◌<◌, ◌≤◌, ◌^◌, ◌∙◌, ℕ, List, [], ap, ap₂, sym, subst, arith, length, set}
use Rattle.std.specs.Prelude.{MatchResult, Some, is_ok, slice_get}
use Rattle.std.proofs.lemmas.Nat.{pow_pos}
use Rattle.std.proofs.lemmas.Result.{MatchResult-from_err}
use Rattle.sequence.specs.declared.tree.Node.TheVariants.{Branch, Leaf}
use Rattle.sequence.specs.Changes.{IsLess}
use Rattle.sequence.specs.Nodes.{CanLose, IsList, IsNode, height_in, items_in, seen}
use Rattle.sequence.specs.Spots.{spliced}
use Rattle.sequence.proofs.Calls.{kept_at}
use Rattle.sequence.proofs.Nodes.Changed.{IsRemoved, Relabels, behind_first_one, first_gone, less}
use Rattle.sequence.proofs.Nodes.Changed.{removed_at, removed_leaf, spot_inside}
use Rattle.sequence.proofs.Nodes.Labelled.{first_spliced}
use Rattle.sequence.proofs.Nodes.Copied.{IsMade, made}
use Rattle.sequence.proofs.Nodes.Placed.{child_here}
use Rattle.sequence.proofs.tree.+remove.Given as given
use Rattle.sequence.proofs.tree.+remove.Goals as goal
use Rattle.sequence.proofs.tree.+remove.Goals.{Tree::remove-After-remove, Tree::remove-After-remove-2}
use Rattle.sequence.proofs.tree.+remove.Goals.{Tree::remove-In-Branch}
use Rattle.sequence.proofs.tree.+remove.Goals.{Child::remove-then-labelled+then-index-eq0+in_ok-new}
use Rattle.sequence.proofs.tree.+remove.Goals.{Child::remove-else-labelled, Child::remove-in-Some}
use Rattle.sequence.proofs.tree.+remove.Goals.{Child::remove-in_default}

-- the branch is whole, and has what the tree has
branch : (g : given.Over) (t : ℕ) (c : Tree::remove-In-Branch g t)
    → IsMade g.L.Label.label_of c.args.self.now (Branch c.in-Branch.children)
branch g t c =
    rw c.in-Branch.is at (made g.L.Label.label_of c.args.self.now c.self.inside.root c.in_ok-items.field-0.now
    c.self.invariant c.self.view_is c.in_ok-items.ensures.value c.requires.copies)

pub Tree::remove-invariant_of-self : goal.Tree::remove-invariant_of-self
Tree::remove-invariant_of-self g t c =
    subst (IsNode g.L.Label.label_of) (sym (kept_at c.make_mut.result c.in_err-items.field-0.0 c.in_err-items.was
    c.make_mut.follows.holds-at-none)) c.self.invariant

pub Tree::remove-returns-in_err-items : goal.Tree::remove-returns-in_err-items
Tree::remove-returns-in_err-items g t c =
    MatchResult-from_err c.from_residual.result _ _ c.from_residual.ensures.0
    (λ _. ap (λ node. seen node) (kept_at c.make_mut.result c.in_err-items.field-0.0 c.in_err-items.was
    c.make_mut.follows.holds-at-none) ∙ c.self.view_is)

-- the leaf then
leaf : (g : given.Over) (t : ℕ) (c : Tree::remove-After-remove g t)
    → let new = c.remove.new.self.items in
    let tree = c.args.self.now in
    IsList new × ((slice_get tree.0 c.args.index ≡ Some c.remove.result)
    × ◌≡◌ {A = List g.row.T.Denot × ℕ} (new, 0) (spliced c.args.index 1 [] tree.0, tree.1))
leaf g t c =
    let node = rw c.in-Leaf.is at (made g.L.Label.label_of c.args.self.now c.self.inside.root
    c.in_ok-items.field-0.now c.self.invariant c.self.view_is c.in_ok-items.ensures.value c.requires.copies) in
    removed_leaf c.args.self.now c.in-Leaf.items.items c.remove.new.self.items c.args.index c.remove.result node.same
    node.whole c.requires.some c.requires.there c.remove.ensures.value c.remove.ensures.items

pub Tree::remove-invariant_of-self-in-Leaf : goal.Tree::remove-invariant_of-self-in-Leaf
Tree::remove-invariant_of-self-in-Leaf g t c =
    subst (IsNode g.L.Label.label_of) (sym (c.make_mut.follows.holds (Leaf c.remove.new.self)
    (ap (λ r. is_ok r) c.in_ok-items.was)))
    (leaf g t (goal.at.Tree::remove-invariant_of-self-in-Leaf g t c).After-remove).0

pub Tree::remove-returns-in-Leaf : goal.Tree::remove-returns-in-Leaf
Tree::remove-returns-in-Leaf g t c =
    let leaf = leaf g t (goal.at.Tree::remove-returns-in-Leaf g t c).After-remove in (
      leaf.1.0,
      ap (λ node. seen node) (c.make_mut.follows.holds (Leaf c.remove.new.self) (ap (λ r. is_ok r) c.in_ok-items.was))
          ∙ leaf.1.1,
    )

pub Tree::remove-invariant_of-self-in_err-spot : goal.Tree::remove-invariant_of-self-in_err-spot
Tree::remove-invariant_of-self-in_err-spot g t c =
    subst (IsNode g.L.Label.label_of) (sym (c.make_mut.follows.holds (Branch c.spare_for.new.children)
    (ap (λ r. is_ok r) c.in_ok-items.was))) c.in_err-spot.ensures.same.children

pub Tree::remove-returns-in_err-spot : goal.Tree::remove-returns-in_err-spot
Tree::remove-returns-in_err-spot g t c =
    let node = branch g t (goal.at.Tree::remove-returns-in_err-spot g t c).In-Branch in
    let same = c.in_err-spot.ensures.same in
    let failed = c.from_residual-in_err-spot in
    MatchResult-from_err failed.result _ _ failed.ensures.0
    (λ _. ap (λ node. seen node) (c.make_mut.follows.holds (Branch c.spare_for.new.children)
    (ap (λ r. is_ok r) c.in_ok-items.was)) ∙ (λ i. (same.items i, same.height i)) ∙ node.same)

pub Tree::remove-overflow_sub-spot : goal.Tree::remove-overflow_sub-spot
Tree::remove-overflow_sub-spot g t c = c.in_ok-spot.ensures.leads.inner (omega (arith))

pub Tree::remove-spare_for-requires-clause-children : goal.Tree::remove-spare_for-requires-clause-children
Tree::remove-spare_for-requires-clause-children g t c =
    (branch g t (goal.at.Tree::remove-spare_for-requires-clause-children g t c).In-Branch).whole

pub Tree::remove-spare_for-requires-clause-there : goal.Tree::remove-spare_for-requires-clause-there
Tree::remove-spare_for-requires-clause-there g t c =
    let node = branch g t (goal.at.Tree::remove-spare_for-requires-clause-there g t c).In-Branch in
    omega (arith, ap (λ t. length t.0) node.same, c.requires.there)

pub Tree::remove-spare_for-requires-clause-wide : goal.Tree::remove-spare_for-requires-clause-wide
Tree::remove-spare_for-requires-clause-wide g t c =
    let node = branch g t (goal.at.Tree::remove-spare_for-requires-clause-wide g t c).In-Branch in
    subst (λ t. 2 ^ t.1 ≤ length t.0) (sym node.same) c.requires.wide

pub Child::remove-remove-requires : goal.Child::remove-remove-requires
Child::remove-remove-requires g t c κs within =
    let wide = c.requires.spare in
    let some : 1 < length c.args.self.now.tree.0 = omega (arith, wide, pow_pos c.args.self.now.tree.1) in
    let least : 2 ^ c.args.self.now.tree.1 ≤ length c.args.self.now.tree.0 = omega (arith, wide) in (
      omega (arith, c.decreases),
      (within.0, (within.1, (c.requires.copies, (c.requires.there, (some, least))))),
    )

pub Child::remove-overflow_sub-self : goal.Child::remove-overflow_sub-self
Child::remove-overflow_sub-self g t c = omega (arith, c.requires.child.counted, c.requires.there)

pub Tree::remove-remove-requires-2 : goal.Tree::remove-remove-requires-2
Tree::remove-remove-requires-2 g t c κs within =
    let node = branch g t (goal.at.Tree::remove-remove-requires-2 g t c).In-Branch in
    let cs = c.spare_for.new.children.items in
    let spot = c.in_ok-spot.spot in
    let same = c.in_ok-spot.ensures.same in
    let leads = c.in_ok-spot.ensures.leads in
    let d = c.index_mut.result.now in
    let is = c.index_mut.ensures.value in
    let high = ap (λ child. child.tree.1) is in
    let level = (same.children.each spot.child d leads.within).level in
    let spare = subst (λ child. CanLose child.tree) (sym is) (c.in_ok-spot.ensures.spare d) in
    let child = child_here cs spot.child d same.children leads.within is in
    let tree = (λ i. (same.items i, same.height i)) ∙ node.same in
    let there = spot_inside c.args.self.now cs spot d same.children tree c.args.index leads is in (
      omega (arith, c.decreases, ap (λ t. t.1) node.same, high, level, same.height),
      (within.0, (within.1, (c.requires.copies, (child, (spare, there))))),
    )

-- the branch then
done : (g : given.Over) (t : ℕ) (c : Tree::remove-After-remove-2 g t)
    → IsRemoved g.L.Label.label_of c.args.self.now c.args.index
    (set c.spare_for.new.children.items c.in_ok-spot.spot.child c.remove-2.new.self) c.remove-2.result
done g t c =
    let node = rw c.in-Branch.is at (made g.L.Label.label_of c.args.self.now c.self.inside.root
    c.in_ok-items.field-0.now c.self.invariant c.self.view_is c.in_ok-items.ensures.value
    c.requires.copies) in
    let cs = c.spare_for.new.children.items in
    let spot = c.in_ok-spot.spot in
    let same = c.in_ok-spot.ensures.same in
    let leads = c.in_ok-spot.ensures.leads in
    let tree : ◌≡◌ {A = List g.row.T.Denot × ℕ} (items_in cs, height_in cs) c.args.self.now =
    ap₂ (λ (es : List g.row.T.Denot) (h : ℕ). (es, h)) same.items same.height ∙ node.same in
    removed_at c.args.self.now cs spot c.index_mut.result.now same.children tree c.args.index leads
    c.index_mut.ensures.value c.remove-2.new.self c.remove-2.result c.remove-2.ensures

pub Tree::remove-invariant_of-self-2 : goal.Tree::remove-invariant_of-self-2
Tree::remove-invariant_of-self-2 g t c =
    subst (IsNode g.L.Label.label_of) (sym (c.make_mut.follows.holds _ (ap (λ r. is_ok r) c.in_ok-items.was)))
    (done g t (goal.at.Tree::remove-invariant_of-self-2 g t c).After-remove-2).whole

pub Tree::remove-returns : goal.Tree::remove-returns
Tree::remove-returns g t c =
    let tree = c.args.self.now in
    let at = c.args.index in
    subst (λ node. MatchResult c.remove-2.result
    (λ item. (slice_get tree.0 at ≡ Some item) × (seen node ≡ (spliced at 1 [] tree.0, tree.1)))
    (λ _. seen node ≡ tree))
    (sym (c.make_mut.follows.holds _ (ap (λ r. is_ok r) c.in_ok-items.was)))
    (done g t (goal.at.Tree::remove-returns g t c).After-remove-2).done

pub Child::remove-returns : goal.Child::remove-returns
Child::remove-returns g t c =
    let label_of = g.L.Label.label_of in
    let old = c.args.self.now in
    let at = c.args.index in
    let label : Relabels label_of old.tree.0 at c.args.labelled c.if-labelled.label = elim c.if-labelled.branch [
      | Child::remove-then-labelled+then-index-eq0+in_ok-new w ↦
          subst (Relabels label_of old.tree.0 at c.args.labelled) (sym w.label-is)
          (first_gone label_of old.tree.0 at w.item.result.now w.if-index-eq0.true w.item.ensures
          ∙ ap (λ l. Some l) (sym (w.in_ok-new.ensures c.requires.copies.1)))
      | Child::remove-else-labelled w ↦
          subst (Relabels label_of old.tree.0 at c.args.labelled) (sym w.label-is)
          (behind_first_one c.args.labelled at w.else-labelled.either)
    ] in
    elim c.match-label-2.branch [
      | Child::remove-in-Some v ↦
          subst (λ new. IsLess label_of c.args.labelled at old new c.in_ok-item.item) (sym v.self-is)
          (less old at c.args.labelled v.in-Some.label c.remove.new.self c.in_ok-item.item c.requires.child
          c.requires.spare c.requires.there c.in_ok-item.ensures
          (λ _ _. subst (Relabels label_of old.tree.0 at c.args.labelled) v.in-Some.is label))
      | Child::remove-in_default v ↦
          subst (λ new. IsLess label_of c.args.labelled at old new c.in_ok-item.item) (sym v.self-is)
          (less old at c.args.labelled old.label c.remove.new.self c.in_ok-item.item c.requires.child c.requires.spare
          c.requires.there c.in_ok-item.ensures (λ l is. first_spliced label_of old.tree.0 [] at 1 old.label
          (subst (Relabels label_of old.tree.0 at c.args.labelled) v.in_default.is label l) is.first))
    ]
