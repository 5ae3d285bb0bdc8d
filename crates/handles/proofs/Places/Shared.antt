-- What a `&` to the places lends, which threads they may go to, and what a `&` to their fields shows. Assumes `Logic`.
use Rattle.std.proofs.Common.{ℕ, ◌*◌, ◌==◌, Bool, true, false, List, sym, subst}
use mathlib.Core.Bool.{not}
use seplogic.Ra.Ura.{Ura}
use mir.Syntax.{Ty}
use base.Fraction.{full_share}
use base.Fml.{Lft, Fml, fsep}
use base.Shift.{Keyless}
use types.Logic.{Logic}
use denote.Array.{Array, Array-row_laws}
use denote.ArrayMemory.{Single}
use denote.RattleType.{RattleType, RowLaws}
use denote.RawPtr.{Ptr, block_ptr, null_ptr, lies_at, room_for, ◌+ₚ◌}
use denote.Sharing.{ShrLaws, said}
use denote.SharingLaws.{said_shr_laws, beside_shr_laws}
use denote.Shares.{Shares, Shares-Array}
use denote.Param.Laws.{Laws}
use denote.Param.Send.{IsSend, IsSync, AllSend, AllSync, array_send, array_sync, owning_send, struct_send}
use denote.Param.Send.{struct_sync, sendable}
use denote.Struct.Lending.{lent_at, lent_at_shr_laws, Lends, Lends-first, Lends-lies, Lends-said, Lends-both}
use denote.Struct.Owning.{Owning, shape, fields, to}
use denote.Struct.Struct.{exits_of}
use denote.Struct.Laws.{Copyables, alones, copieds, RawPtr-copy, usize-copy}
use denote.Copied.{Struct-Copied}
use denote.Opens.{Opens}
use Rattle.core.specs.Allocator.{array_of}
use Rattle.std_alloc.specs.Vec.Ownership.{owns_if}
use Rattle.std_alloc.proofs.SendSync.{quiet, lies, seen}
use Rattle.std_heap.proofs.Handle.{handle}
use Rattle.std.proofs.Crossing as crossing
use Rattle.std.specs.Mem.{type_size}
use Rattle.handles.specs.Inside.PlacesOwnership.{fits, spare, frees_room, places_own, places_share}
use Rattle.handles.proofs.Places.Fields.{PlacesType, PlacesRow, PlacesWords}

module _ (R : RattleType) (p : Ptr) (filled room : ℕ) (items : List R.Denot) where
  -- what a `&` to places has may be had twice, and for a shorter lifetime
  pub places_share-ShrLaws : RowLaws R → ShrLaws (places_share R p filled room items)
  places_share-ShrLaws L = beside_shr_laws (said (fits R room)) (lent_at (Array R filled) p items)
      (said_shr_laws (fits R room) tt) (lent_at_shr_laws (Array R filled) (Array-row_laws R L filled) p items)

  -- places lend their items
  pub Lends-places : {M : Type 1} {𝓤 : Ura M} (𝓛 : Logic 𝓤) → Laws R → (l : Lft)
      → Shares 𝓛 R l → Lends 𝓛 (places_own R p filled room items) (places_share R p filled room items) l
  Lends-places 𝓛 L l s = let run : Fml = lies_at (Array R filled) full_share p items in
      let others : Fml = fsep (spare R p filled room) (frees_room R p room) in
      let lent : Lft → Fml = lent_at (Array R filled) p items in
      Lends-both 𝓛 (fits R room) (fsep run others) (said (fits R room)) lent l (Lends-said 𝓛 (fits R room)
      tt l) (Lends-first 𝓛 run others lent l (Lends-lies 𝓛 (Array R filled)
      l p items (Shares-Array 𝓛 R (subst Single (sym L.one) tt) filled l s items)))

room-Keyless : (τ : Ty) (p : Ptr) → Keyless (room_for τ p)
room-Keyless τ (block_ptr b o) = tt
room-Keyless τ null_ptr = tt

owns_if-Keyless : (y : Bool) (F : Fml) → Keyless F → Keyless (owns_if y F)
owns_if-Keyless true F k = k
owns_if-Keyless false F k = tt

module _ (R : RattleType) where
  abbrev O : Owning
  O = PlacesType R

  fields-Send : AllSend (fields O)
  fields-Send = (search sendable, (search sendable, (search sendable, tt)))

  fields-Sync : AllSync (fields O)
  fields-Sync = (search sendable, (search sendable, (search sendable, tt)))

  -- places may go to a thread if their items may: any thread may free their block
  pub places-Send : IsSend R → IsSend (PlacesRow R)
  places-Send s = owning_send O fields-Send
      (λ d. (
        tt,
        (
          lies (Array R d.filled) (array_send R d.filled s)
              d.first d.items,
          (
            room-Keyless _ (d.first +ₚ d.filled * type_size R),
            owns_if-Keyless (not (d.room *
                type_size R == 0)) _ (crossing.frees.frees handle (array_of R d.room) d.first),
          ),
        ),
      )) (λ k. quiet (to O) (exits_of k (fields O)) ((struct_send (shape O) fields-Send).leaving k))

  -- they may be seen by a thread if their items may
  pub places-Sync : IsSync R → IsSync (PlacesRow R)
  places-Sync y = record {
    shared = λ d b o κ. (
      (struct_sync (shape O) fields-Sync).shared (to O d)
          b o κ,
      (tt, seen (Array R d.filled) (array_sync R d.filled y) d.first d.items κ),
    );
  }

  -- the three fields of places are Copy
  abbrev words_copy : Copyables O.parts
  words_copy = (RawPtr-copy, (usize-copy, (usize-copy, tt)))

  -- a `&` to the fields can be read
  pub words_open : {M : Type 1} {𝓤 : Ura M} (𝓛 : Logic 𝓤) → Opens 𝓛 (PlacesWords R)
  words_open {M} {𝓤 = 𝓤} 𝓛 = (Struct-Copied 𝓛 (shape O) (alones O.parts words_copy)
      (copieds 𝓛 O.parts words_copy)).opens
