-- The item goes out of the child at that end.
use Rattle.std.proofs.Common.{◌≡◌, ◌+◌, ◌-◌, ◌<◌, ◌∙◌, ℕ, List, ap, arith, length, set, subst, sym}
use Rattle.std.proofs.lemmas.List.{get_or_default}
use Rattle.std.proofs.lemmas.Nat.{pow_pos}
use Rattle.std.proofs.lemmas.Result.{MatchResult-from_err}
use Rattle.std.specs.Prelude.{IsOk, MatchResult, is_ok}
use Rattle.sequence.specs.declared.tree.Child.{Child}
use Rattle.sequence.specs.Changes.{IsPopped}
use Rattle.sequence.specs.Nodes.{AreChildren, IsChild, IsList, IsNode, height_in, items_in, seen}
use Rattle.sequence.specs.Spots.{place_at}
use Rattle.sequence.specs.declared.tree.Node.TheVariants.{Branch}
use Rattle.sequence.proofs.Calls.{kept_at, one_less}
use Rattle.sequence.proofs.Cutting.Acts.{read_again}
use Rattle.sequence.proofs.Nodes.Copied.{IsMade, made}
use Rattle.sequence.proofs.Nodes.Ended.{MakeUp, at_most_one, can_lose, leaf_gone, popped_leaf, popped_under}
use Rattle.sequence.proofs.Nodes.Placed.{child_here}
use Rattle.sequence.proofs.Nodes.Wide.{some_in}
use Rattle.sequence.proofs.tree.Tree.+pop.Given as given
use Rattle.sequence.proofs.tree.Tree.+pop.Goals as goal
use Rattle.sequence.proofs.tree.Tree.+pop.Goals.{After-from, After-pop-arg-1, After-pop_in_leaf, After-pop_leaf}
use Rattle.sequence.proofs.tree.Tree.+pop.Goals.{In-Branch}

-- the branch is whole, and has what the tree has
branch : (g : given.Over) (t : ℕ) (c : In-Branch g t)
    → IsMade g.L.Label.label_of c.args.self.now (Branch c.in-Branch.children)
branch g t c =
    rw c.in-Branch.is at (made g.L.Label.label_of c.args.self.now c.self.inside.root c.in_ok-items.field-0.now
    c.self.invariant c.self.view_is c.in_ok-items.ensures.value c.requires.copies)

pub invariant_of-self : goal.invariant_of-self
invariant_of-self g t c =
    subst (IsNode g.L.Label.label_of) (sym (kept_at c.make_mut.result c.in_err-items.field-0.0 c.in_err-items.was
    c.make_mut.follows.holds-at-none)) c.self.invariant

pub returns-in_err-items : goal.returns-in_err-items
returns-in_err-items g t c =
    MatchResult-from_err c.from_residual.result _ _ c.from_residual.ensures.0
    (λ _. ap (λ node. seen node) (kept_at c.make_mut.result c.in_err-items.field-0.0 c.in_err-items.was
    c.make_mut.follows.holds-at-none) ∙ c.self.view_is)

pub pop_leaf-requires-clause-within : goal.pop_leaf-requires-clause-within
pop_leaf-requires-clause-within g t c = omega (arith, c.place-at.ensures.within, c.len-2.ensures)

pub pop_leaf-requires-clause-child : goal.pop_leaf-requires-clause-child
pop_leaf-requires-clause-child g t c =
    (branch g t (goal.at.pop_leaf-requires-clause-child g t c).In-Branch).whole.each

pub pop_leaf-requires-clause-one : goal.pop_leaf-requires-clause-one
pop_leaf-requires-clause-one g t c d =
    let node = branch g t (goal.at.pop_leaf-requires-clause-one g t c).In-Branch in
    let cs = c.in-Branch.children.items in
    let i = c.place-at.result in
    let e = c.index.result.now in
    let h : i < length cs = omega (arith, c.place-at.ensures.within, c.len-2.ensures) in
    let same = c.index.ensures ∙ get_or_default cs i e d h in
    omega (arith, (node.whole.each i d h).counted, c.if-index-eq1.true, ap (λ child. child.len) same)

pub place-at-requires : goal.place-at-requires
place-at-requires g t c =
    let node = branch g t (goal.at.place-at-requires g t c).In-Branch in
    omega (arith, some_in c.in-Branch.children.items node.whole, c.len-2.ensures)

-- the child at that end, which has more than the one item that goes out
record IsUnder {T L : Type 0} (cs : List (Child T L)) (i : ℕ) (d : Child T L) : Type 0 where
  within : i < length cs
  child : IsChild (d.tree.1 + 1) d
  some : 1 < length d.tree.0

-- the place is one of theirs
inside : (g : given.Over) (t : ℕ) (c : After-pop-arg-1 g t) → c.place-at.result < length c.in-Branch.children.items
inside g t c = omega (arith, c.place-at.ensures.within, c.len-2.ensures)

-- the child has other items too, as it was not found to have one
others : (g : given.Over) (t : ℕ) (c : After-pop-arg-1 g t) → c.place-at.result < length c.in-Branch.children.items
    → let d = c.index_mut-child.result.now in
    IsChild (d.tree.1 + 1) d → 1 < length d.tree.0
others g t c h child =
    let d = c.index_mut-child.result.now in
    let seen = read_again c.in-Branch.children.items c.place-at.result c.index.result.now (omega (arith, h))
    c.index.ensures d c.index_mut-child.ensures.value in
    omega (arith, child.counted, child.wide, pow_pos d.tree.1, c.if-index-eq1.false, ap (λ c. c.len) seen)

-- so the child is such a one
under : (g : given.Over) (t : ℕ) (c : After-pop-arg-1 g t)
    → IsMade g.L.Label.label_of c.args.self.now (Branch c.in-Branch.children)
    → IsUnder c.in-Branch.children.items c.place-at.result c.index_mut-child.result.now
under g t c node =
    let child = child_here c.in-Branch.children.items c.place-at.result c.index_mut-child.result.now node.whole
    (inside g t c) c.index_mut-child.ensures.value in
    record { within = inside g t c; child = child; some = others g t c (inside g t c) child }

pub overflow_sub-child : goal.overflow_sub-child
overflow_sub-child g t c =
    let at = goal.at.overflow_sub-child g t c in
    let u = under g t at.After-pop-arg-1 (branch g t at.In-Branch) in
    omega (arith, c.from.ensures, at_most_one c.is_ok.result, u.child.counted, u.some)

pub pop-popped-requires : goal.pop-popped-requires
pop-popped-requires g t c κs within =
    let at = goal.at.pop-popped-requires g t c in
    let node = branch g t at.In-Branch in
    let u = under g t at.After-pop-arg-1 node in
    let d = c.index_mut-child.result.now in
    let high = ap (λ child. child.tree.1) c.index_mut-child.ensures.value in
    let level = (node.whole.each c.place-at.result d u.within).level in (
      omega (arith, c.decreases, ap (λ t. t.1) node.same, high, level),
      (within.0, (within.1, (c.requires.copies, u.some))),
    )

-- the item, and the leaf then
leaf : (g : given.Over) (t : ℕ) (c : After-pop_in_leaf g t)
    → let new = c.pop_in_leaf.new.items.items in
    IsList new × IsPopped c.args.end c.args.least c.args.self.now (new, 0) c.pop_in_leaf.result
leaf g t c =
    let node = rw c.in-Leaf.is at (made g.L.Label.label_of c.args.self.now c.self.inside.root
    c.in_ok-items.field-0.now c.self.invariant c.self.view_is c.in_ok-items.ensures.value
    c.requires.copies) in
    popped_leaf c.args.self.now c.in-Leaf.items.items c.pop_in_leaf.new.items.items node.same node.whole c.args.end
    c.args.least c.pop_in_leaf.result c.requires.some c.pop_in_leaf.ensures.item c.pop_in_leaf.ensures.items

pub invariant_of-self-in-Leaf : goal.invariant_of-self-in-Leaf
invariant_of-self-in-Leaf g t c =
    subst (IsNode g.L.Label.label_of) (sym (c.make_mut.follows.holds _ (ap (λ r. is_ok r) c.in_ok-items.was)))
    (leaf g t (goal.at.invariant_of-self-in-Leaf g t c).After-pop_in_leaf).0

pub returns-in-Leaf : goal.returns-in-Leaf
returns-in-Leaf g t c =
    subst (λ node. IsPopped c.args.end c.args.least c.args.self.now (seen node) c.pop_in_leaf.result)
    (sym (c.make_mut.follows.holds _ (ap (λ r. is_ok r) c.in_ok-items.was)))
    (leaf g t (goal.at.returns-in-Leaf g t c).After-pop_in_leaf).1

pub invariant_of-self-then-len-least : goal.invariant_of-self-then-len-least
invariant_of-self-then-len-least g t c =
    subst (IsNode g.L.Label.label_of) (sym (c.make_mut.follows.holds _ (ap (λ r. is_ok r) c.in_ok-items.was)))
    (branch g t (goal.at.invariant_of-self-then-len-least g t c).In-Branch).whole

pub returns-then-len-least : goal.returns-then-len-least
returns-then-len-least g t c =
    ap (λ node. seen node) (c.make_mut.follows.holds _ (ap (λ r. is_ok r) c.in_ok-items.was))
    ∙ (branch g t (goal.at.returns-then-len-least g t c).In-Branch).same

-- the item, and the children then
done : (g : given.Over) (t : ℕ) (c : After-from g t)
    → IsMade g.L.Label.label_of c.args.self.now (Branch c.in-Branch.children)
    → let d = c.index_mut-child.result.now in
    IsUnder c.in-Branch.children.items c.place-at.result d
    → let cs = set c.in-Branch.children.items c.place-at.result (record d {
      len = d.len - c.from.result;
      tree = c.pop-popped.new.self;
    }) in
    AreChildren g.L.Label.label_of cs × MatchResult c.pop-popped.result
    (IsPopped c.args.end c.args.least c.args.self.now (items_in cs, height_in cs)) (λ _. MakeUp cs c.args.self.now)
done g t c node u =
    let tree = c.args.self.now in
    let cs = c.in-Branch.children.items in
    let i = c.place-at.result in
    let d = c.index_mut-child.result.now in
    let is = c.index_mut-child.ensures.value in
    let count : c.len-2.result ≡ length cs = omega (arith, c.len-2.ensures) in
    let first : i ≡ place_at c.args.end (length cs) =
    c.place-at.ensures.place ∙ ap (λ n. place_at c.args.end n) count in
    let counted = one_less d.len c.from.result c.is_ok.result c.from.ensures c.pop-popped.result c.is_ok.ensures.value
    (omega (arith, u.some, u.child.counted)) in
    popped_under tree cs i d node.whole node.same u.within is c.args.end c.args.least _ first u.some
    (λ low. can_lose tree cs i d node.whole node.same u.within is
    (omega (arith, low, c.if-len-least.false, c.len.ensures)))
    (omega arith) c.pop-popped.new.self (d.len - c.from.result) c.pop-popped.result c.pop-popped.ensures counted.0
    counted.1

-- the same where a leaf goes with its only item
gone : (g : given.Over) (t : ℕ) (c : After-pop_leaf g t)
    → IsMade g.L.Label.label_of c.args.self.now (Branch c.in-Branch.children)
    → let cs = c.pop_leaf.new.children.items in
    AreChildren g.L.Label.label_of cs × MatchResult c.pop_leaf.result
    (IsPopped c.args.end c.args.least c.args.self.now (items_in cs, height_in cs)) (λ _. MakeUp cs c.args.self.now)
gone g t c node =
    let tree = c.args.self.now in
    let cs = c.in-Branch.children.items in
    let i = c.place-at.result in
    let d = c.index.result.now in
    let count : c.len-2.result ≡ length cs = omega (arith, c.len-2.ensures) in
    let first = c.place-at.ensures.place ∙ ap (λ n. place_at c.args.end n) count in
    let h : i < length cs = omega (arith, c.place-at.ensures.within, count) in
    leaf_gone tree cs i d node.whole node.same h c.index.ensures c.args.end c.args.least first c.requires.some
    (λ low. can_lose tree cs i d node.whole node.same h c.index.ensures
    (omega (arith, low, c.if-len-least.false, c.len.ensures)))
    c.pop_leaf.new.children.items c.pop_leaf.result c.pop_leaf.ensures

pub invariant_of-self-then-index-eq1 : goal.invariant_of-self-then-index-eq1
invariant_of-self-then-index-eq1 g t c =
    let ok : IsOk c.make_mut.result = ap (λ r. is_ok r) c.in_ok-items.was in
    let at = goal.at.invariant_of-self-then-index-eq1 g t c in
    subst (IsNode g.L.Label.label_of) (sym (c.make_mut.follows.holds _ ok))
    (gone g t at.After-pop_leaf (branch g t at.In-Branch)).0

pub returns-then-index-eq1 : goal.returns-then-index-eq1
returns-then-index-eq1 g t c =
    let at = goal.at.returns-then-index-eq1 g t c in
    subst (λ node. MatchResult c.pop_leaf.result (IsPopped c.args.end c.args.least c.args.self.now (seen node))
    (λ _. seen node ≡ c.args.self.now)) (sym (c.make_mut.follows.holds _ (ap (λ r. is_ok r) c.in_ok-items.was)))
    (gone g t at.After-pop_leaf (branch g t at.In-Branch)).1

pub invariant_of-self-2 : goal.invariant_of-self-2
invariant_of-self-2 g t c =
    let ok : IsOk c.make_mut.result = ap (λ r. is_ok r) c.in_ok-items.was in
    let at = goal.at.invariant_of-self-2 g t c in
    let node = branch g t at.In-Branch in
    subst (IsNode g.L.Label.label_of) (sym (c.make_mut.follows.holds _ ok))
    (done g t at.After-from node (under g t at.After-pop-arg-1 node)).0

pub returns : goal.returns
returns g t c =
    let at = goal.at.returns g t c in
    let node = branch g t at.In-Branch in
    subst (λ node. MatchResult c.pop-popped.result (IsPopped c.args.end c.args.least c.args.self.now (seen node))
    (λ _. seen node ≡ c.args.self.now)) (sym (c.make_mut.follows.holds _ (ap (λ r. is_ok r) c.in_ok-items.was)))
    (done g t at.After-from node (under g t at.After-pop-arg-1 node)).1
