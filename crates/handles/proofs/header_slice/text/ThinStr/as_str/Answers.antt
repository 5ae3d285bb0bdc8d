use Rattle.std.proofs.lemmas.Str.{IsUtf8-had}
use Rattle.handles.proofs.header_slice.text.ThinStr.as_str.Goals as goal

pub from_utf8_unchecked-requires : goal.from_utf8_unchecked-requires
from_utf8_unchecked-requires g c =
    rw (c.slice.ensures, c.deref.ensures) (IsUtf8-had c.self.inside.block.items c.self.invariant)
