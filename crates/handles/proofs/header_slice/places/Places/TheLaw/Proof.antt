-- A `&` to the places lends the items and neither the room after them nor the right to free the block. Assumes
-- `Logic`.
use Rattle.handles.proofs.Places.{Incl-trans, of_Lends, places_share-ShrLaws, Lends-places}
use mathlib.Core.List.{[], ◌++◌}
use contract.BorrowLft.{meet_⊑_left}
use denote.RattleType.{RattleType}
use denote.Param.Laws.{Laws}
use denote.Param.Shared.{copy_shared}
use denote.Shares.{Shares-less}
use denote.Struct.Field.{RawPtr-field, usize-field}
use denote.Struct.Laws.{RawPtr-copy, usize-copy}
use Rattle.handles.specs.contracts.header_slice.places.Places as C
use Rattle.handles.proofs.header_slice.places.Places.TheLaw.Statement.{statement}

pub shares : (R : RattleType) (L : Laws R) → statement R L
shares R L = of_Lends (C.struct R) (C.the_codes R.Denot R.coded) (C.the_heap R) (C.the_lent R)
    (λ d p. places_share-ShrLaws R d.first d.filled d.room d.items L.shr_laws) (
      copy_shared RawPtr-field RawPtr-copy,
      (copy_shared usize-field usize-copy, (copy_shared usize-field usize-copy, tt)),
    ) (λ M 𝓤 𝓛 d p. let l = (C.the_row R).lives in
    Lends-places R d.first d.filled d.room d.items 𝓛 L l (Shares-less 𝓛 R R.lives l (Incl-trans
    (meet_⊑_left (R.lives ++ []) _) (meet_⊑_left R.lives [])) (L.shares 𝓛)))
