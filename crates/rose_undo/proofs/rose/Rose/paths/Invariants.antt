-- What was seen and what is still to be seen are all values; each turn sees one or is done with a tree.
use Rattle.std.proofs.Common.{◌≡◌, [], ◌++◌, ◌+◌, ◌*◌, length, map}
use Rattle.rose_undo.specs.Roses.{paths_from}
use Rattle.rose_undo.proofs.Paths.{paths_left}
use Rattle.rose_undo.proofs.Preorder.{to_see}
use Rattle.rose_undo.proofs.rose.Rose.paths.Given as goal

abbrev pub invariant-loop-path : goal.invariant-loop-path
invariant-loop-path g l =
    map (λ p. (p.0.items, p.1.now)) l.paths.items ++ to_see paths_left l.left.items ≡ paths_from l.self []

abbrev pub decreases-loop-path : goal.decreases-loop-path
decreases-loop-path g l =
    2 * length (to_see paths_left l.left.items) + length l.left.items
