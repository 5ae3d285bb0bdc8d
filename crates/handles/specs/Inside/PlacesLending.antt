-- The items of the places after a `&mut` to the items has ended: what was last written through the `&mut`.
use Rattle.std.specs.Prelude.{List, length}
use Rattle.std.specs.Borrow.{Fml, MutBor, RattleType, Array, Lends}
use Rattle.core.specs.List.{length_refill}
use mathlib.Core.Path.{refl, ◌∙◌}
use Rattle.handles.specs.HeaderSlice.{rewritten}
use Rattle.handles.specs.declared.header_slice.places.Places.{Places}
use Rattle.handles.specs.contracts.header_slice.places.Places.{the_row}

abbrev pub with_items : {X : Type 0} → Places X → List X → Places X
with_items p written =
    record {
      first = p.first;
      filled = p.filled;
      room = p.room;
      items = rewritten p.items written;
      within = (p.within.0 ∙ length_refill (length p.items) p.items written refl, p.within.1);
    }

abbrev pub LendsPlaces : (R : RattleType) → MutBor (Places R.Denot) → MutBor (List R.Denot) → Fml
LendsPlaces R p r = Lends (the_row R) (Array R 0) p r (with_items p.now)
