use Rattle.std.proofs.Common.{◌+◌, ◌*◌, length}
use Rattle.rose_undo.proofs.rose.Rose.+modify.Given as goal

abbrev pub decreases-modify_there : goal.decreases-modify_there
decreases-modify_there g l = 2 * length l.path.now + 1

abbrev pub decreases-write : goal.decreases-write
decreases-write g l = 2 * length l.path.now
