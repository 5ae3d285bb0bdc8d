-- The value of the only handle of a header slice after a `&mut` into it has ended.
use Rattle.std.specs.Prelude.{List}
use Rattle.std.specs.Borrow.{Fml, MutBor, RattleType, Array, Lends}
use Rattle.handles.specs.HeaderSlice.{HeaderAndItems, rewritten}
use Rattle.handles.specs.contracts.header_slice.HeaderSlice.{the_row as slice_row}
use Rattle.handles.specs.contracts.unique.UniqueArc.{the_row as unique_row}

module _ (H T : RattleType) (u : MutBor (HeaderAndItems H.Denot T.Denot)) where
  abbrev pub LendsUniqueHeader : MutBor H.Denot → Fml
  LendsUniqueHeader r = Lends (unique_row (slice_row H T)) H u r (λ h. record { header = h; items = u.now.items })

  abbrev pub LendsUniqueItems : MutBor (List T.Denot) → Fml
  LendsUniqueItems r = Lends (unique_row (slice_row H T)) (Array T 0) u r
      (λ xs. record { header = u.now.header; items = rewritten u.now.items xs })
