-- A tree is lower than a byte can say.
use Rattle.std.proofs.Common.{arith}
use Rattle.sequence.proofs.Nodes.Wide.{low}
use Rattle.sequence.proofs.tree.Tree.hang.Goals as goal

pub overflow_add-below : goal.overflow_add-below
overflow_add-below g c =
    let height = low c.args.self.now.1 c.args.len (omega (arith, c.requires.wide.0, c.requires.len))
    (omega (arith, c.ranges.len.fits)) in
    omega (arith, c.requires.low, height)
