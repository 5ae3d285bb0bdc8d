use Rattle.std.proofs.Common.{◌≡◌, ◌+◌, drop}
use Rattle.std.specs.List.{flat_map}
use Rattle.std.specs.Prelude.{sum}
use Rattle.rose_undo.specs.Roses.{preorder}
use Rattle.uses.proofs.tree_total.+total.Given as goal

-- the sum so far and that of the children to come are the whole
abbrev pub invariant-loop-child : goal.invariant-loop-child
invariant-loop-child l =
    l.sum + sum (flat_map preorder (drop l.child-index l.child-items)) ≡ sum (preorder l.tree)
