use Rattle.std.specs.Prelude.{List}
use Rattle.std.specs.Borrow.{Fml, MutBor, RattleType, Array, Lends}
use Rattle.handles.specs.HeaderSlice.{ItemsInRoom, rewritten}
use Rattle.handles.specs.contracts.header_slice.items.Items.{the_row}

-- a `&mut` to all items ends as they were last written
abbrev pub LendsItemsInRoom : (T : RattleType) → MutBor (ItemsInRoom T.Denot) → MutBor (List T.Denot) → Fml
LendsItemsInRoom T p r = Lends (the_row T) (Array T 0) p r
    (λ xs. record { items = rewritten p.now.items xs; room = p.now.room })
