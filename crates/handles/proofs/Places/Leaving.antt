-- The words of the places and of the leaving places, and what they own on the way from the one to the other. Assumes
-- `Logic`.
use Rattle.std.proofs.Common.{◌≡◌, ℕ, ◌+◌, ◌-◌, ◌*◌, ◌^◌, ◌<◌, ◌≤◌, List, [], ◌∷◌, map, refl, sym, ap, ◌∙◌, w64}
use Rattle.std.proofs.Common.{arith}
use native.Mathlib.Nat.{add_assoc, add_comm, zero-mul, sub-zero, not-suc-le-zero}
use Prim.Native.Nat.{suc}
use lib.ListN.{length}
use lib.Dec.{T}
use seplogic.Ra.Ura.{Ura}
use base.Fraction.{full_share}
use base.Logic.{ent, sep, emp, via, never, never_e, id⊢}
use base.Fml.{Fml, fat, froom}
use mir.Syntax.{ty_int, ty_ptr, ty_struct, ty_array}
use mir.Val.{Val, vint, vstruct, vcons, vnil, of_list, has_ty, WT}
use types.Logic.{Logic, sem}
use types.Kit.{Item, mean, ‵, ◌⊛◌, some, given, ◌$◌, ◌∵◌, !, qed, by, move, keep, pick, learn, show, check, use0}
use types.Kit.{use1, use2, fsplit, fsplit3, fjoin, rewrite, done}
use denote.RattleType.{RattleType}
use denote.Memory.{lone, part_at}
use denote.Array.{Array}
use denote.Index.{row}
use denote.RawPtr.{Ptr, block_ptr, null_ptr, ptr_val}
use denote.Shadow.{makes_shadow}
use denote.Laws.{Typed}
use denote.Struct.Struct.{Struct, as_fields, to_tys}
use denote.Struct.Owning.{shape}
use Rattle.core.specs.Mem.{type_size}
use Rattle.core.proofs.atomic.Steps.{Ptr-Good}
use Rattle.core.proofs.ptr.Rows.{El, R, Good, el_own, el_x, elτ, sz, el_out, apart, whole, room_snoc, glued}
use Rattle.core.proofs.ptr.Rows.{one_more, next}
use Rattle.std_alloc.proofs.RawLayout.{as_raw}
use Rattle.handles.specs.Inside.PlacesOwnership.{places_own, leaving_own}
use Rattle.handles.proofs.Places.Opened.{none_at_null as no_places_at_null}
pub use Rattle.handles.specs.contracts.header_slice.places.Leaving.{the_type as LeavingType, the_row as LeavingRow}

-- leaving places as one machine value
abbrev pub leaving_val : Ptr → ℕ → ℕ → ℕ → Val
leaving_val p taken filled room = vstruct (vcons (ptr_val p) (vcons (vint w64 taken) (vcons (vint w64 filled)
    (vcons (vint w64 room) vnil))))

-- numbers that fit their words
abbrev pub FitWords : List ℕ → Type 0
FitWords [] = Unit {0}
FitWords (n ∷ ns) = (n < 2 ^ 64) × FitWords ns

fit_words : (ns : List ℕ) → FitWords ns → Typed (map (λ _. ty_int w64) ns) (map (vint w64) ns)
fit_words [] fit = tt
fit_words (n ∷ ns) fit = ((tt, record { fits = fit.0 }), fit_words ns fit.1)

-- a pointer and such numbers are the fields of a value of its type
pub words-Good : (p : Ptr) (ns : List ℕ) → FitWords ns
    → T (has_ty (ty_struct [] (to_tys (ty_ptr ∷ map (λ _. ty_int w64) ns)))
    (vstruct (of_list (ptr_val p ∷ map (vint w64) ns)))) × WT (vstruct (of_list (ptr_val p ∷ map (vint w64) ns)))
words-Good p ns fit = as_fields (ty_ptr ∷ map (λ _. ty_int w64) ns) (ptr_val p ∷ map (vint w64) ns)
    (Ptr-Good p, fit_words ns fit)

module _ (R : RattleType) where
  -- the fields, as a plain struct
  abbrev pub LeavingWords : RattleType
  LeavingWords = Struct (shape (LeavingType R))

  -- the fields with what they own
  abbrev pub leaving_words : Ptr → ℕ → ℕ → ℕ → Fml
  leaving_words p taken filled room = LeavingWords.own_val (p, (taken, (filled, (room, tt))))
      (leaving_val p taken filled room ∷ [])

  -- numbers that fit their words make the fields
  pub leaving_made : {M : Type 1} {𝓤 : Ura M} (𝓛 : Logic 𝓤) (p : Ptr) (taken filled room : ℕ)
      → FitWords (taken ∷ filled ∷ room ∷ []) → ent 𝓤 (emp 𝓤) (sem 𝓛 (leaving_words p taken filled room))
  leaving_made 𝓛 p taken filled room fit = makes_shadow 𝓛 (leaving_words p taken filled room)
      (λ vss. (tt, (tt, ((tt, tt), ((tt, tt), ((tt, tt), tt)))))) (
        (ptr_val p ∷ [], (vint w64 taken ∷ [], (vint w64 filled ∷ [], (vint w64 room ∷ [], tt)))),
        (refl, (refl, ((refl, fit.0), ((refl, fit.1.0), ((refl, fit.1.1.0), tt))))),
      )

module _ (R : RattleType) {M : Type 1} {𝓤 : Ura M} (𝓛 : Logic 𝓤) where
  -- no item has left the places yet
  pub none_left : (p : Ptr) (filled room : ℕ) (items : List R.Denot)
      → ent 𝓤 (sem 𝓛 (places_own R p filled room items)) (sem 𝓛 (leaving_own R p 0 filled room items))
  none_left null_ptr filled room items = via 𝓤 (never 𝓤) (no_places_at_null R 𝓛 filled room items) (never_e 𝓤 _)
  none_left (block_ptr b o) filled room items = let s : ℕ = type_size R in let none : 0 * s ≡ 0 = zero-mul s in
      let there : o ≡ o + 0 * s = omega arith in
      qed 𝓛 (‵ (places_own R (block_ptr b o) filled room items) ∷ []) ∵ fsplit3 ! $ move ! (1 ∷ []) $
      rewrite ! 0 (λ (at : ℕ). ‵ (part_at (Array R filled) full_share items b at)) there refl $
      rewrite ! 0 (λ (n : ℕ). ‵ (part_at (Array R n) full_share items b (o + 0 * s))) (sym (sub-zero filled)) refl $
      -- [the items; the bound; the room and the right to free]
      move ! (0 ∷ 2 ∷ []) $ fjoin ! $
      use0 𝓛 (‵ (froom (ty_array (lone R.mir) 0) b o)) (𝓛.laws.room_nil (lone R.mir) b o) $
      as_raw ! (ty_array (lone R.mir) 0) b o $ move ! (0 ∷ 1 ∷ []) $ fjoin ! $ move ! (1 ∷ 0 ∷ []) $ fjoin ! $ done !

  -- nothing lies at null
  pub none_at_null : (taken filled room : ℕ) (items : List R.Denot)
      → ent 𝓤 (sem 𝓛 (leaving_own R null_ptr taken filled room items)) (never 𝓤)
  none_at_null taken filled room items = qed 𝓛 (‵ (leaving_own R null_ptr taken filled room items) ∷ [])
      ∵ fsplit3 ! $ keep ! (1 ∷ []) $ by ! (id⊢ 𝓤 (never 𝓤))

-- a list that is not empty, as its first item and the others
pub first_of : {X : Type 0} (xs : List X) → 0 < length xs → (x : X) × ((others : List X) × (xs ≡ x ∷ others))
first_of [] asked = absurd (not-suc-le-zero asked)
first_of (x ∷ xs) asked = (x, (xs, refl))

module _ (E : El) {M : Type 1} {𝓤 : Ura M} (𝓛 : Logic 𝓤) (b o taken filled : ℕ) where
  open 𝓛 use {H}

  abbrev s : ℕ
  s = sz E

  abbrev after_it : o + taken * s + s ≡ o + (taken + 1) * s
  after_it = add_assoc o (taken * s) s ∙ ap (λ (k : ℕ). o + k) (sym (next taken s))

  -- the items after the first that is left
  abbrev later_items : List (el_x E) → Fml
  later_items others = part_at (Array (R E) (filled - (taken + 1))) full_share others b (o + (taken + 1) * s)

  -- the first item that is left, at the place where the machine finds it
  abbrev first_item : el_x E → Val → Item 𝓤
  first_item x v = ‵ (fat full_share (elτ E) b (taken * s + o) v) ⊛ ‵ (el_own E x (v ∷ []))

  abbrev first_at : el_x E → List (el_x E) → Val → Item 𝓤
  first_at x others v = given (Good E v) (first_item x v ⊛ ‵ (later_items others))

  -- that item and the others
  abbrev pub first_and_others : el_x E → List (el_x E) → Item 𝓤
  first_and_others x others = some (λ (v : Val). first_at x others v)

  -- the items that are left, as these
  pub first_out : (x : el_x E) (others : List (el_x E)) → ent 𝓤 (sem 𝓛 (part_at (Array (R E)
      (filled - taken)) full_share (x ∷ others) b (o + taken * s))) (mean 𝓛 (first_and_others x others))
  first_out x others = let left : ℕ = filled - taken in
      qed 𝓛 (‵ (part_at (Array (R E) left) full_share (x ∷ others) b (o + taken * s)) ∷ []) ∵
      use1 𝓛 (given (length (x ∷ others) ≡ left) (‵ (row (R E) full_share (x ∷ others)
      b (o + taken * s)))) (apart E 𝓛 full_share left (x ∷ others) b (o + taken * s)) $
      learn ! (λ long. fsplit ! $ move ! (1 ∷ []) $
      let fewer : length others ≡ filled - (taken + 1) = omega (arith, long) in
      rewrite ! 0 (λ (k : ℕ). ‵ (row (R E) full_share others b k)) after_it refl $
      use1 𝓛 (‵ (later_items others))
      (whole E 𝓛 full_share (filled - (taken + 1)) others b (o + (taken + 1) * s) fewer) $ move ! (1 ∷ []) $
      rewrite ! 0 (λ (k : ℕ). ‵ (part_at (R E) full_share x b k)) (add_comm o (taken * s)) refl $
      use1 𝓛 (some (λ (v : Val). given (Good E v) (first_item x v))) (el_out E 𝓛 full_share x b (taken * s + o)) $
      pick ! (λ v. learn ! (λ good. show ! (λ (w : Val). mean 𝓛 (first_at x others w)) v $ check ! good $ done !)))

  -- its place is room again, beside the room before it
  pub room_after : (v : Val) → ent 𝓤 (sep 𝓤 (H.room (ty_array (elτ E) taken) b o) (H.at full_share (elτ E)
      b (taken * s + o) v)) (H.room (ty_array (elτ E) (taken + 1)) b o)
  room_after v = qed 𝓛 (‵ (froom (ty_array (elτ E) taken) b o) ∷ ‵ (fat full_share (elτ E)
      b (taken * s + o) v) ∷ []) ∵ move ! (1 ∷ []) $
      use1 𝓛 (‵ (froom (elτ E) b (taken * s + o))) (𝓛.laws.at_room (elτ E) b (taken * s + o) v) $ move ! (1 ∷ 0 ∷ []) $
      use2 𝓛 (‵ (froom (ty_array (elτ E) (suc taken)) b o)) (room_snoc E 𝓛 b o taken) $
      rewrite ! 0 (λ (k : ℕ). ‵ (froom (ty_array (elτ E) k) b o)) (sym (one_more taken)) refl $ done !

  -- with no item left, the room before and the room after are the whole block's
  pub whole_room : (room : ℕ)
      → filled ≡ taken → filled ≤ room → ent 𝓤 (sep 𝓤 (H.room (ty_array (elτ E) taken) b o)
      (H.room (ty_array (elτ E) (room - filled)) b (o + filled * s))) (H.room (ty_array (elτ E) room) b o)
  whole_room room none enough = qed 𝓛 (‵ (froom (ty_array (elτ E) taken) b o) ∷ ‵ (froom (ty_array (elτ E)
      (room - filled)) b (o + filled * s)) ∷ []) ∵
      rewrite ! 1 (λ (k : ℕ). ‵ (froom (ty_array (elτ E) (room - k)) b (o + k * s))) none refl $
      by ! (glued E 𝓛 taken (room - taken) room b o (omega arith))
