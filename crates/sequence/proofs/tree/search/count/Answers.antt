use Rattle.std.proofs.Common.{◌+◌, ◌≤◌, ◌∙◌, ap, arith, length}
use Rattle.std.proofs.lemmas.List.{take_all}
use Rattle.sequence.specs.Nodes.{items_in}
use Rattle.sequence.proofs.Nodes.Children.{length-more, length-parts}
use Rattle.sequence.proofs.tree.search.count.Goals as goal

pub overflow_add-count : goal.overflow_add-count
overflow_add-count g c =
    let cs = c.args.children.now in
    let i = c.loop-child.child-index in
    let d = c.child-item.result in
    omega (
      arith,
      c.loop-child.invariant,
      c.requires.each i d c.loop-child-test.true,
      ap (λ child. child.len) c.child-item.is,
      length-more cs i d c.loop-child-test.true,
      length-parts cs (i + 1),
      c.requires.room,
    )

pub loop-child-preserved : goal.loop-child-preserved
loop-child-preserved g c =
    let cs = c.args.children.now in
    let i = c.loop-child.child-index in
    let d = c.child-item.result in
    omega (
      arith,
      c.loop-child.invariant,
      c.requires.each i d c.loop-child-test.true,
      ap (λ child. child.len) c.child-item.is,
      length-more cs i d c.loop-child-test.true,
    )

pub returns : goal.returns
returns g c =
    let cs = c.args.children.now in
    let i = c.loop-child.child-index in
    let all : length cs ≤ i = omega (arith, c.loop-child-test.false) in
    c.loop-child.invariant ∙ ap (λ cs. length (items_in cs)) (take_all i cs all)
