-- Three children on either side of the cut are enough.
use Rattle.std.proofs.Common.{◌≡◌, ◌+◌, ◌<◌, ◌^◌, ap, arith, length, length-append, subst, sym}
use Rattle.sequence.specs.Nodes.{AreHalves, IsNode, seen}
use Rattle.sequence.proofs.Shapes.Halves.{both_spare, sides}
use Rattle.sequence.proofs.tree.Node.split_node.Goals as goal

pub split_branch-requires-clause-sides : goal.split_branch-requires-clause-sides
split_branch-requires-clause-sides g c =
    let keep = c.kept-keep-in-Branch in
    let high : keep.result + 2 < length c.in-Branch.children.items = omega arith in
    let more = sides _ keep.result (rw c.in-Branch.is at c.requires.node) keep.ensures.low high in
    (omega (arith, more.0), omega (arith, more.1))

pub returns-in_ok-split_branch-in-Branch-clause-split : goal.returns-in_ok-split_branch-in-Branch-clause-split
returns-in_ok-split_branch-in-Branch-clause-split g c =
    let keep = c.kept-keep-in-Branch in
    let high : keep.result + 2 < length c.in-Branch.children.items = omega arith in
    let done = c.in_ok-split_branch-in-Branch.ensures in (
      rw c.in-Branch.is done.halves,
      both_spare _ keep.result (rw c.in-Branch.is at c.requires.node) keep.ensures.low high _ _ done.kept done.halves,
    )

pub split_branch-requires-clause-children : goal.split_branch-requires-clause-children
split_branch-requires-clause-children g c = subst (IsNode g.L.Label.label_of) c.in-Branch.is c.requires.node

pub returns-in_ok-split_leaf-in-Leaf-clause-split : goal.returns-in_ok-split_leaf-in-Leaf-clause-split
returns-in_ok-split_leaf-in-Leaf-clause-split g c =
    let new = c.split_leaf.new.items.items in
    let right = c.in_ok-split_leaf-in-Leaf.field-0 in
    let done = c.in_ok-split_leaf-in-Leaf.ensures in
    let level : right.tree.1 ≡ 0 = omega (arith, done.halves.child.level) in
    let sum = ap (λ es. length es) done.halves.items in
    let more : 1 < length right.tree.0 =
    omega (arith, sum, length-append new right.tree.0, done.kept, c.kept-keep.ensures.high, c.len-in-Leaf.ensures) in (
      subst (λ node. AreHalves g.L.Label.label_of (seen node) (new, 0) right) (sym c.in-Leaf.is) done.halves,
      (omega (arith, done.kept, c.kept-keep.ensures.low), subst (λ h. 2 ^ h < length right.tree.0) (sym level) more),
    )

pub returns-in_ok-split_leaf-in-Leaf-clause-node : goal.returns-in_ok-split_leaf-in-Leaf-clause-node
returns-in_ok-split_leaf-in-Leaf-clause-node g c = c.in_ok-split_leaf-in-Leaf.ensures.list

pub returns-in_ok-split_branch-in-Branch-clause-node : goal.returns-in_ok-split_branch-in-Branch-clause-node
returns-in_ok-split_branch-in-Branch-clause-node g c = c.in_ok-split_branch-in-Branch.ensures.children
