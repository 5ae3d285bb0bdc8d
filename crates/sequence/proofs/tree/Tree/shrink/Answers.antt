use Rattle.std.proofs.Common.{◌≡◌, ◌≤◌, ◌^◌, ◌∙◌, List, ap, arith, get_or, length, subst, sym}
use Rattle.sequence.specs.declared.tree.Child.{Child}
use Rattle.sequence.specs.Nodes.{AreChildren, height_in, items_in}
use Rattle.sequence.proofs.Nodes.Children.{items_only}
use Rattle.sequence.proofs.Nodes.Wide.{some_in, two_children}
use Rattle.sequence.proofs.tree.Tree.shrink.Goals as goal

pub returns-in_default-clause-wide : goal.returns-in_default-clause-wide
returns-in_default-clause-wide g c =
    let cs = c.in-Branch.children.items in
    let are = rw c.in-Branch.is at c.node.ensures.whole in
    let same = rw c.in-Branch.is at c.node.ensures.same in
    let some = some_in cs are in
    subst (λ t. 2 ^ t.1 ≤ length t.0) same
    (two_children (height_in cs) cs are.each (omega (arith, some, c.len.ensures, c.if-len-eq1.false)))

-- an only child has all items
only : {T L : Type 0} {label_of : T → L} (cs : List (Child T L)) (child : Child T L) → AreChildren label_of cs
    → child ≡ get_or cs 0 child → length cs ≡ 1
    → (child.tree.0 ≡ items_in cs) × (2 ^ child.tree.1 ≤ length child.tree.0)
only cs child are is one =
    let first = are.each 0 child (omega (arith, one)) in
    (items_only cs child is one, subst (λ d. 2 ^ d.tree.1 ≤ length d.tree.0) (sym is) first.wide)

pub down-init : goal.down-init
down-init g c =
    let cs = c.in-Branch.children.items in
    let are = rw c.in-Branch.is at c.node.ensures.whole in
    let same = rw c.in-Branch.is at c.node.ensures.same in
    let one : length cs ≡ 1 = omega (arith, c.len.ensures, c.if-len-eq1.true) in
    let down = only cs c.index.result.now are c.index.ensures one in
    record { same = down.0 ∙ ap (λ tree. tree.0) same; wide = down.1 }

pub down-preserved : goal.down-preserved
down-preserved g c =
    let cs = c.in-Branch-node.children.items in
    let are = rw c.in-Branch-node.is at c.node-in-down.ensures.whole in
    let same = rw c.in-Branch-node.is at c.node-in-down.ensures.same in
    let one : length cs ≡ 1 = omega (arith, some_in cs are, c.len-in-Branch-node.ensures, c.if-len-gt1.false) in
    let down = only cs c.index-in-Branch-node.result.now are c.index-in-Branch-node.ensures one in
    record { same = down.0 ∙ ap (λ tree. tree.0) same ∙ c.down.invariant.same; wide = down.1 }
