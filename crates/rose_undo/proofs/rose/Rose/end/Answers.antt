use Rattle.std.proofs.Common.{ap, arith}
use Rattle.rose_undo.proofs.Preorder.{count, count-push, count-extended}
use Rattle.rose_undo.proofs.rose.Rose.end.Goals as goal

pub loop-tree-smaller : goal.loop-tree-smaller
loop-tree-smaller g c =
    omega (arith, ap count c.in-Some.ensures.items, count-push c.pop.new.self.items c.in-Some.tree)

pub loop-tree-smaller-in-Some-into_inner : goal.loop-tree-smaller-in-Some-into_inner
loop-tree-smaller-in-Some-into_inner g c =
    let pushed = count-extended _ c.extend_with_clones.result c.pop.new.self.items c.extend_with_clones.new.self.items
    c.slice.result.now c.extend_with_clones.ensures.items c.extend_with_clones.ensures.err in
    omega (
      arith,
      ap count c.in-Some.ensures.items,
      count-push c.pop.new.self.items c.in-Some.tree,
      pushed,
      ap count c.slice.ensures,
      ap (λ slice. count slice.items) c.in-Some-into_inner.ensures,
    )
