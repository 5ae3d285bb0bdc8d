-- What the places for items of the row R own and lend.
use Rattle.std.specs.Prelude.{ℕ, ◌-◌, ◌*◌, ◌^◌, List, ◌==◌, not}
use Rattle.std.specs.Mem.{type_size}
use base.Fraction.{full_share}
use base.Fml.{Lft, Fml, fsep, flt}
use mir.Syntax.{Ty}
use denote.RattleType.{RattleType}
use denote.Array.{Array}
use denote.RawPtr.{Ptr, lies_at, room_for, ◌+ₚ◌}
use denote.Sharing.{said, beside}
use denote.Struct.Lending.{lent_at}
use Rattle.core.specs.Allocator.{array_of}
use Rattle.std.specs.contracts.impls.GlobalAllocator.TheImpl.{ghosts}
use Rattle.std_alloc.specs.Vec.Ownership.{owns_if}

-- the right to free a block, whose handle has no other value
abbrev pub right_to_free : Ty → Ptr → Fml
right_to_free = ghosts.dealloc_token (record { memory = record { seal = tt } })

module _ (R : RattleType) where
  -- all places together take fewer than 2 ^ 63 bytes
  abbrev pub fits : ℕ → Fml
  fits room = flt (room * type_size R) (2 ^ 63)

  -- the places from the one after `filled` on
  abbrev pub spare : Ptr → ℕ → ℕ → Fml
  spare p filled room = room_for (array_of R (room - filled)) (p +ₚ filled * type_size R)

  -- there is a block to free if the places take bytes
  abbrev pub frees_room : Ptr → ℕ → Fml
  frees_room p room = owns_if (not (room * type_size R == 0)) (right_to_free (array_of R room) p)

  -- the items lie side by side from the first place on
  abbrev pub places_own : Ptr → ℕ → ℕ → List R.Denot → Fml
  places_own p filled room items =
      fsep (fits room) (fsep (lies_at (Array R filled) full_share p items)
      (fsep (spare p filled room) (frees_room p room)))

  -- the items that are left lie side by side from the place after `taken` on
  abbrev pub leaving_own : Ptr → ℕ → ℕ → ℕ → List R.Denot → Fml
  leaving_own p taken filled room items =
      fsep (fits room) (fsep (room_for (array_of R taken) p)
      (fsep (lies_at (Array R (filled - taken)) full_share (p +ₚ taken * type_size R) items)
      (fsep (spare p filled room) (frees_room p room))))

  -- a `&` to the places shows their items
  abbrev pub places_share : Ptr → ℕ → ℕ → List R.Denot → Lft → Fml
  places_share p filled room items = beside (said (fits room)) (lent_at (Array R filled) p items)
