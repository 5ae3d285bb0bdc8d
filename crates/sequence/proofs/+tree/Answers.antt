-- The tree of a child is less deep than the child.
use Rattle.std.proofs.Common.{arith}
use Rattle.sequence.proofs.+tree.Goals as goal

pub sequence++tree++Child+Destruct::drop-drop-requires-2 :
    goal.sequence++tree++Child+Destruct::drop-drop-requires-2
sequence++tree++Child+Destruct::drop-drop-requires-2 g t c κs within = (omega (arith, c.decreases), within)
