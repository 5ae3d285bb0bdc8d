-- The value of a header slice after a `&mut` into it has ended: what was last written through the `&mut`, and the
-- rest as before.
use Rattle.std.specs.Prelude.{List}
use Rattle.std.specs.Borrow.{Fml, MutBor, RattleType, Array, Lends}
use Rattle.handles.specs.HeaderSlice.{HeaderAndItems, rewritten}
use Rattle.handles.specs.contracts.header_slice.HeaderSlice.{the_row}

abbrev pub LendsItems : (H T : RattleType) → MutBor (HeaderAndItems H.Denot T.Denot) → MutBor (List T.Denot) → Fml
LendsItems H T s r = Lends (the_row H T) (Array T 0) s r
    (λ xs. record { header = s.now.header; items = rewritten s.now.items xs })
