-- The item goes in behind those of the last child.
use Rattle.std.proofs.Common.{◌≡◌, ◌+◌, ◌-◌, ◌<◌, ◌^◌, ℕ, [], ◌∷◌, ap, arith, length, set, subst, sym}
use Rattle.std.specs.Prelude.{List, MatchResult, is_ok}
use Rattle.sequence.specs.Nodes.{AreChildren, IsList, IsNode, seen}
use Rattle.sequence.specs.Spots.{spliced}
use Rattle.sequence.specs.declared.tree.Node.TheVariants.{Branch}
use Rattle.sequence.proofs.Calls.{one_more}
use Rattle.sequence.proofs.Nodes.Copied.{IsMade, made}
use Rattle.sequence.proofs.Nodes.Ended.{MakeUp, at_most_one, pushed_leaf, pushed_under}
use Rattle.sequence.proofs.Nodes.Placed.{child_here, child_within}
use Rattle.sequence.proofs.Nodes.Wide.{some_in}
use Rattle.sequence.proofs.tree.Tree.+push.Given as given
use Rattle.sequence.proofs.tree.Tree.+push.Goals as goal
use Rattle.sequence.proofs.tree.Tree.+push.Goals.{After-from, After-push_in_leaf, In-Branch}

-- the branch is whole, and has what the tree has
branch : (g : given.Over) (t : ℕ) (c : In-Branch g t)
    → IsMade g.L.Label.label_of c.args.self.now (Branch c.in-Branch.children)
branch g t c =
    rw c.in-Branch.is at (made g.L.Label.label_of c.args.self.now c.self.inside.root c.in-Ok.node.now c.self.invariant
    c.self.view_is c.in-Ok.ensures.value c.requires.copies)

pub overflow_sub-last : goal.overflow_sub-last
overflow_sub-last g t c =
    let node = branch g t (goal.at.overflow_sub-last g t c).In-Branch in
    omega (arith, some_in c.in-Branch.children.items node.whole, c.len-last.ensures)

pub overflow_add-child : goal.overflow_add-child
overflow_add-child g t c =
    let node = branch g t (goal.at.overflow_add-child g t c).In-Branch in
    let cs = c.in-Branch.children.items in
    let i = c.len-last.result - 1 in
    let d = c.index_mut-child.result.now in
    let is = c.index_mut-child.ensures.value in
    let h : i < length cs = omega (arith, some_in cs node.whole, c.len-last.ensures) in
    omega (
      arith,
      c.from.ensures,
      at_most_one c.is_ok.result,
      (child_here cs i d node.whole h is).counted,
      child_within cs i d node.whole h is,
      ap (λ t. length t.0) node.same,
      c.requires.room,
    )

pub push-pushed-requires : goal.push-pushed-requires
push-pushed-requires g t c κs within =
    let node = branch g t (goal.at.push-pushed-requires g t c).In-Branch in
    let cs = c.in-Branch.children.items in
    let i = c.len-last.result - 1 in
    let d = c.index_mut-child.result.now in
    let is = c.index_mut-child.ensures.value in
    let some = some_in cs node.whole in
    let h : i < length cs = omega (arith, some, c.len-last.ensures) in
    let level = (node.whole.each i d h).level in
    let fewer = child_within cs i d node.whole h is in
    let room : length d.tree.0 + 1 < 2 ^ 64 =
    omega (arith, fewer, ap (λ t. length t.0) node.same, c.requires.room) in (
      omega (arith, c.decreases, ap (λ t. t.1) node.same, ap (λ child. child.tree.1) is, level),
      (within.0, (within.1, (c.requires.copies, room))),
    )

-- the leaf then
leaf : (g : given.Over) (t : ℕ) (c : After-push_in_leaf g t)
    → let new = c.push_in_leaf.new.items.items in
    let tree = c.args.self.now in
    IsList new × MatchResult c.push_in_leaf.result
    (λ _. ◌≡◌ {A = List g.row.T.Denot × ℕ} (new, 0) (spliced (length tree.0) 0 (c.args.item ∷ []) tree.0, tree.1))
    (λ back. ◌≡◌ {A = List g.row.T.Denot × ℕ} (new, 0) tree × (back ≡ c.args.item))
leaf g t c =
    let node = rw c.in-Leaf.is at (made g.L.Label.label_of c.args.self.now c.self.inside.root c.in-Ok.node.now
    c.self.invariant c.self.view_is c.in-Ok.ensures.value c.requires.copies) in
    pushed_leaf c.args.self.now c.in-Leaf.items.items c.push_in_leaf.new.items.items node.same node.whole c.args.item
    c.push_in_leaf.result c.requires.room c.push_in_leaf.ensures

pub invariant_of-self-in-Leaf : goal.invariant_of-self-in-Leaf
invariant_of-self-in-Leaf g t c =
    subst (IsNode g.L.Label.label_of) (sym (c.make_mut.follows.holds _ (ap (λ r. is_ok r) c.in-Ok.is)))
    (leaf g t (goal.at.invariant_of-self-in-Leaf g t c).After-push_in_leaf).0

pub returns-in-Leaf : goal.returns-in-Leaf
returns-in-Leaf g t c =
    let tree = c.args.self.now in
    subst (λ node. MatchResult c.push_in_leaf.result
    (λ _. seen node ≡ (spliced (length tree.0) 0 (c.args.item ∷ []) tree.0, tree.1))
    (λ back. (seen node ≡ tree) × (back ≡ c.args.item)))
    (sym (c.make_mut.follows.holds _ (ap (λ r. is_ok r) c.in-Ok.is)))
    (leaf g t (goal.at.returns-in-Leaf g t c).After-push_in_leaf).1

-- the children then
done : (g : given.Over) (t : ℕ) (c : After-from g t)
    → let d = c.index_mut-child.result.now in
    let cs = set c.in-Branch.children.items (c.len-last.result - 1) (record d {
      len = d.len + c.from.result;
      tree = c.push-pushed.new.self;
    }) in
    let tree = c.args.self.now in
    AreChildren g.L.Label.label_of cs × MatchResult c.push-pushed.result
    (λ _. MakeUp cs (spliced (length tree.0) 0 (c.args.item ∷ []) tree.0, tree.1))
    (λ back. MakeUp cs tree × (back ≡ c.args.item))
done g t c =
    let node = rw c.in-Branch.is at (made g.L.Label.label_of c.args.self.now c.self.inside.root c.in-Ok.node.now
    c.self.invariant c.self.view_is c.in-Ok.ensures.value c.requires.copies) in
    let cs = c.in-Branch.children.items in
    let d = c.index_mut-child.result.now in
    let some = some_in cs node.whole in
    let last : c.len-last.result - 1 + 1 ≡ length cs = omega (arith, some, c.len-last.ensures) in
    let counted = one_more d.len c.from.result c.is_ok.result c.from.ensures c.push-pushed.result
    c.is_ok.ensures.value in
    pushed_under c.args.self.now cs (c.len-last.result - 1) d node.whole node.same (omega (arith, last))
    c.index_mut-child.ensures.value last c.requires.room c.args.item c.push-pushed.new.self (d.len + c.from.result)
    c.push-pushed.result c.push-pushed.ensures counted.0 counted.1

pub invariant_of-self-2 : goal.invariant_of-self-2
invariant_of-self-2 g t c =
    subst (IsNode g.L.Label.label_of) (sym (c.make_mut.follows.holds _ (ap (λ r. is_ok r) c.in-Ok.is)))
    (done g t (goal.at.invariant_of-self-2 g t c).After-from).0

pub returns : goal.returns
returns g t c =
    let tree = c.args.self.now in
    subst (λ node. MatchResult c.push-pushed.result
    (λ _. seen node ≡ (spliced (length tree.0) 0 (c.args.item ∷ []) tree.0, tree.1))
    (λ back. (seen node ≡ tree) × (back ≡ c.args.item)))
    (sym (c.make_mut.follows.holds _ (ap (λ r. is_ok r) c.in-Ok.is))) (done g t (goal.at.returns g t c).After-from).1
