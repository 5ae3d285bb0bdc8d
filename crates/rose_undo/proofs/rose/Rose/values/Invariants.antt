-- What was seen and what is still to be seen are all values; each turn sees one or ends a list.
use Rattle.std.proofs.Common.{◌≡◌, ◌++◌, ◌+◌, ◌*◌, length, map}
use Rattle.rose_undo.specs.Roses.{preorder}
use Rattle.rose_undo.proofs.Preorder.{to_see, values_in}
use Rattle.rose_undo.proofs.rose.Rose.values.Given as goal

abbrev pub invariant-loop-trees : goal.invariant-loop-trees
invariant-loop-trees g l =
    map (λ v. v.now) l.values.items ++ to_see values_in l.left.items ≡ preorder l.self

abbrev pub decreases-loop-trees : goal.decreases-loop-trees
decreases-loop-trees g l = 2 * length (to_see values_in l.left.items) + length l.left.items
