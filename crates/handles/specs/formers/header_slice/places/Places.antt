-- `Places` in recursive types: a type may hold `Places` for items of itself, one by one.
use Rattle.std.specs.Prelude.{suc, ◌≤◌, ◌-◌, ◌*◌, ◌^◌, ◌==◌, List, [], ◌∷◌, map, length, not}
use mathlib.Core.Path.{◌≡◌, PathP, refl, sym, ap, ◌∙◌}
use mathlib.Core.HLevel.{is_prop→PathP}
use mathlib.Core.Former.{Former, Count, Row, over, this, list, list_count, list_get}
use native.Mathlib.Nat.{ℕ_set}
use native.Mathlib.Bridge.{le_prop}
use lib.ListN.{length-map}
use base.Fraction.{full_share}
use base.Fml.{fsep, flt}
use denote.RattleType.{RattleType}
use denote.Memory.{lone}
use denote.RawPtr.{room_for, ◌+ₚ◌}
use denote.Array.{Array}
use denote.HoleLaws.{Alike}
use denote.HolePlaces.{Array-places}
use denote.Sharing.{said, beside}
use denote.Struct.Struct.{Struct}
use denote.Struct.Owning.{shape, to}
use mir.Raw.{raw}
use mir.Syntax.{ty_array}
use prog.Memory.{size}
use Rattle.std_alloc.specs.Vec.Ownership.{owns_if}
use Rattle.std_alloc.specs.Vec.Recursive.{lies_placed, lent_at_placed}
use Rattle.handles.specs.Inside.PlacesOwnership.{right_to_free}
use Rattle.handles.specs.declared.header_slice.places.Places.{Places}
use Rattle.handles.specs.contracts.header_slice.places.Places as C

-- the same places with other items
module _ {X Y : Type 0} (p : Places X) where
  abbrev pub Fits : List Y → Type 0
  Fits ys = (p.filled ≡ length ys) × (p.filled ≤ p.room)

  abbrev pub holding : (ys : List Y) → Fits ys → Places Y
  holding ys ok =
      record { first = p.first; filled = p.filled; room = p.room; items = ys; within = ok }

  pub fits : (ys : List Y) → length ys ≡ length p.items → Fits ys
  fits ys e = (p.within.0 ∙ sym e, p.within.1)

  pub Fits-along : (ys zs : List Y) (e : ys ≡ zs) (a : Fits ys) (b : Fits zs) → PathP (λ i. Fits (e i)) a b
  Fits-along ys zs e = is_prop→PathP (λ i. Fits (e i)) (λ i a b j. (ℕ_set _ _ a.0 b.0 j, le_prop a.1 b.1 j))

  abbrev pub holding_along : (ys zs : List Y) (e : ys ≡ zs) (a : Fits ys) (b : Fits zs)
      → holding ys a ≡ holding zs b
  holding_along ys zs e a b = λ i. holding (e i) (Fits-along ys zs e a b i)

abbrev pub mapped : {X Y : Type 0} → (X → Y) → Places X → Places Y
mapped h p = holding p (map h p.items) (fits p (map h p.items) (length-map p.items h))

module _ (g : Former {0}) where
  pub length_got : (X : Type 0) (xs : List g.Shape) (n : Count) (v : Row X (list_count g xs n))
      → length (list_get g X xs n v).0 ≡ length xs
  length_got X [] n v = refl
  length_got X (x ∷ xs) n v = ap suc (length_got X xs n (g.get X x (list_count g xs n) v).1)

  abbrev pub got : (X : Type 0) (a : Places g.Shape) (n : Count) → Row X (list_count g a.items n)
      → Places (g.Of X) × Row X n
  got X a n v =
      let r : List (g.Of X) × Row X n = list_get g X a.items n v in
      (holding a r.0 (fits a r.0 (length_got X a.items n v)), r.1)

  abbrev pub the_former : Former {0}
  the_former = record {
    Of = λ X. Places (g.Of X);
    Shape = Places g.Shape;
    count = λ a. list_count g a.items;
    shape = λ X. mapped (g.shape X);
    put = λ X p. (list g).put X p.items;
    get = got;
    map = λ X Y h. mapped (g.map X Y h);
    get-put = λ X p n t i. (
      holding_along p _ _ (λ j. ((list g).get-put X p.items n t j).0)
          (got X (mapped (g.shape X) p) n ((list g).put X p.items n t)).0.within p.within i,
      ((list g).get-put X p.items n t i).1,
    );
    put-get = λ X a n v i. (
      holding_along a _ _ (λ j. ((list g).put-get X a.items n v j).0)
          (mapped (g.shape X) (got X a n v).0).within a.within i,
      ((list g).put-get X a.items n v i).1,
    );
    get-map = λ X Y h a n v i. (
      holding_along a _ _ (λ j. ((list g).get-map X Y h a.items n v j).0)
          (got Y a n (over h (list_count g a.items n) v)).0.within (mapped (g.map X Y h) (got X a n v).0).within i,
      ((list g).get-map X Y h a.items n v i).1,
    );
  }

module _ (R S : RattleType) (h : R.Denot → S.Denot) where
  pub the_places : Alike R S h → Alike (C.the_row R) (C.the_row S)
      ((the_former this).map R.Denot S.Denot h)
  the_places a =
      let width : size (lone S.mir) ≡ size (lone R.mir) = λ i. size (lone (a.mir_same i)) in
      record {
        mir_same = refl;
        own_same = λ p i vs. fsep ((Struct (shape (C.the_type R))).own_val (to (C.the_type R) p) vs)
            (fsep (flt (p.room * width i) (2 ^ 63))
            (fsep (lies_placed (Array R p.filled) (Array S p.filled) (map h) (Array-places R S h a p.filled) full_share
            p.first p.items i)
            (fsep (room_for (raw (ty_array (lone (a.mir_same i)) (p.room - p.filled)))
            (p.first +ₚ p.filled * width i))
            (owns_if (not (p.room * width i == 0))
            (right_to_free (raw (ty_array (lone (a.mir_same i)) p.room)) p.first)))));
        shr_same = λ p i b o. beside ((Struct (shape (C.the_type R))).shr_at (to (C.the_type R) p) b o)
            (beside (said (flt (p.room * width i) (2 ^ 63)))
            (lent_at_placed (Array R p.filled) (Array S p.filled) (map h) (Array-places R S h a p.filled) p.first
            p.items i));
      }
