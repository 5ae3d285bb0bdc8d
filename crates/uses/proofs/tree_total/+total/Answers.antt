use Rattle.std.proofs.Common.{arith, ap}
use Rattle.std.specs.Prelude.{sum}
use Rattle.std.proofs.lemmas.Grind.{common_steps}
use Rattle.rose_undo.proofs.Preorder.{preorder_out}
use Rattle.uses.proofs.tree_total.+total.Goals as goal

pub loop-child-init : goal.loop-child-init
loop-child-init t c = grind (arith, common_steps, ap sum (preorder_out c.args.tree.now))
