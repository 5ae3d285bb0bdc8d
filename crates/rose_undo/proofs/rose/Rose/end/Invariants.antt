-- Each turn takes a tree that is left for its children, or for nothing.
use Rattle.rose_undo.proofs.Preorder.{count}
use Rattle.rose_undo.proofs.rose.Rose.end.Given as goal

abbrev pub decreases-loop-tree : goal.decreases-loop-tree
decreases-loop-tree g l = count l.left.items
