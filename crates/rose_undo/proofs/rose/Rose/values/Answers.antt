use Rattle.std.proofs.Common.{ap, sym, ◌∙◌, ◌++◌, map, rules}
use Rattle.std.proofs.lemmas.List.{nil_from_length}
use Rattle.std.specs.List.{flat_map}
use Rattle.rose_undo.specs.Roses.{preorder, root}
use Rattle.rose_undo.proofs.Preorder.{fewer_left, fewer_to_see, see_first, seen-more, to_see, to_see-one, to_see-same}
use Rattle.rose_undo.proofs.Preorder.{values_in}
use Rattle.rose_undo.proofs.rose.Rose.values.Goals as goal

pub loop-trees-preserved-in_default-split_first : goal.loop-trees-preserved-in_default-split_first
loop-trees-preserved-in_default-split_first g c =
    let none = ap (flat_map preorder) (nil_from_length c.in-Some.trees.now c.in_default-split_first.ensures.cases) in
    let same = to_see-same values_in c.loop-trees.left.items c.pop.new.self.items c.in-Some.trees
    c.in-Some.ensures.items none in
    ap (λ rest. map (λ v. v.now) c.loop-trees.values.items ++ rest) (sym same) ∙ c.loop-trees.invariant

pub loop-trees-smaller-in_default-split_first : goal.loop-trees-smaller-in_default-split_first
loop-trees-smaller-in_default-split_first g c =
    let none = ap (flat_map preorder) (nil_from_length c.in-Some.trees.now c.in_default-split_first.ensures.cases) in
    fewer_left values_in c.loop-trees.left.items c.pop.new.self.items c.in-Some.trees c.in-Some.ensures.items none

pub loop-trees-preserved : goal.loop-trees-preserved
loop-trees-preserved g c =
    let parts = c.in-Some-split_first in
    let first = see_first c.in-Some.trees parts.rest c.children-in-Some.result parts.first.now (search rules)
    c.children-in-Some.ensures in
    let seen = to_see-one values_in c.loop-trees.left.items c.pop.new.self.items c.push-in-Some.new.self.items
    c.push-in-Some-2.new.self.items c.in-Some.trees parts.rest c.children-in-Some.result (root parts.first.now)
    c.in-Some.ensures.items c.in_ok-push-2.ensures.items c.in_ok-push-3.ensures.items first in
    seen-more (λ v. v.now) c.loop-trees.values.items c.push.new.self.items c.value-in-Some.result
    (root parts.first.now) (to_see values_in c.loop-trees.left.items) (to_see values_in c.push-in-Some-2.new.self.items)
    (preorder c.args.self.now) c.in_ok-push.ensures.items c.value-in-Some.ensures seen c.loop-trees.invariant

pub loop-trees-smaller : goal.loop-trees-smaller
loop-trees-smaller g c =
    let parts = c.in-Some-split_first in
    fewer_to_see values_in c.loop-trees.left.items c.pop.new.self.items c.push-in-Some.new.self.items
    c.push-in-Some-2.new.self.items c.in-Some.trees parts.rest c.children-in-Some.result (root parts.first.now)
    c.in-Some.ensures.items c.in_ok-push-2.ensures.items c.in_ok-push-3.ensures.items
    (see_first c.in-Some.trees parts.rest c.children-in-Some.result parts.first.now (search rules)
    c.children-in-Some.ensures)
