-- Room for an array makes places that hold nothing yet, and if they take no bytes it comes from nothing. Assumes
-- `Logic`.
use Rattle.std.proofs.Common.{◌≡◌, ◌≢◌, ℕ, ◌+◌, ◌-◌, ◌*◌, ◌^◌, ◌<◌, true, false, List, [], ◌∷◌, refl, sym, ap, ◌∙◌}
use Rattle.std.proofs.Common.{subst, lit<, arith, ne_eqb}
use Rattle.std.specs.Prelude.{IsTrue, ◌↔◌, not}
use lib.Dec.{T, eqb, eqb→eq}
use seplogic.Ra.Ura.{Ura}
use mir.Syntax.{Ty, ty_array}
use base.Fraction.{full_share}
use base.Logic.{ent, emp, wand}
use base.Fml.{froom}
use native.Mathlib.Nat.{zero-mul}
use prog.Align.{dv_self}
use prog.Memory.{size, align, capped}
use prog.Capped.{capped_is, capped_small}
use types.Logic.{Logic, sem}
use types.Kit.{Item, Goal, Step, step, ‵, raw, ◌⊛◌, ◌$◌, ◌∵◌, !, qed, keep, split, rewrite, use0, use1, fjoin, feq_i}
use types.Kit.{flt_i, done}
use denote.RattleType.{RattleType}
use denote.Array.{Array}
use denote.ArrayMemory.{Array-whole}
use denote.Memory.{lone, part_at}
use denote.RawPtr.{Ptr, block_ptr}
use denote.Steps.{nothing as nothing_more}
use Rattle.std.specs.Mem.{type_size}
use Rattle.handles.specs.Inside.PlacesOwnership.{frees_room}
use Rattle.std_alloc.proofs.RawLayout.{as_raw}
use Rattle.handles.proofs.Places.Fields.{places_val, places_words, PlacesRow, words_made}

-- the size that a word holds is 0 if the size is
pub capped_zero : (n : ℕ) → IsTrue (eqb (capped n) 0) ↔ (n ≡ 0)
capped_zero n = (
  λ e. let none : capped n ≡ 0 = eqb→eq (capped n) 0 (subst T (sym e) tt) in
      let low : n < 2 ^ 63 = capped_small n (omega arith) in sym (capped_is n (omega arith)) ∙ none,
  λ e. ap (λ k. eqb (capped k) 0) e,
)

whole : (room : ℕ) → room ≡ room - 0
whole room = omega arith

first : (o n : ℕ) → o ≡ o + 0 * n
first o n = omega arith

-- the test for bytes says yes where there are some
pub has_bytes : (n : ℕ) → n ≢ 0 → true ≡ not (eqb n 0)
has_bytes n some = sym (ap not (ne_eqb n 0 some))

-- and no where there are none
pub no_bytes : (n : ℕ) → n ≡ 0 → false ≡ not (eqb n 0)
no_bytes n none = sym (ap (λ k. not (eqb k 0)) none)

-- an array that takes no bytes needs no memory
pub no_memory : {M : Type 1} {𝓤 : Ura M} (𝓛 : Logic 𝓤) (τ : Ty) (n b o : ℕ)
    → n * size τ ≡ 0 → ent 𝓤 (emp 𝓤) (sem 𝓛 (froom (ty_array τ n) b o))
no_memory {𝓤 = 𝓤} 𝓛 τ n b o none = qed 𝓛 [] ∵ use0 𝓛 (‵ (froom (ty_array τ 0) b o))
    (𝓛.laws.room_nil τ b o) $ use1 𝓛 (‵ (froom (ty_array τ n) b o) ⊛ raw (wand 𝓤 (sem 𝓛 (froom (ty_array τ n) b o))
    (sem 𝓛 (froom (ty_array τ 0) b o)))) (𝓛.laws.room_as (ty_array τ 0) (ty_array τ n)
    b o (none ∙ sym (zero-mul (size τ))) (dv_self (align τ))) $ split ! $ keep ! (0 ∷ []) $ done !

module _ (R : RattleType) where
  -- places that hold nothing yet
  abbrev pub without_items : Ptr → ℕ → (PlacesRow R).Denot
  without_items p room = record { first = p; filled = 0; room = room; items = []; within = (refl, omega arith) }

  module _ {M : Type 1} {𝓤 : Ura M} {𝓛 : Logic 𝓤} {K : Type 0} {Γ : List (Item 𝓤)} {G : Goal 𝓤
      𝓛.H} where
    -- [the room; the right to free the block]
    pub places_made : K → (b o room : ℕ) → room < 2 ^ 64 → room * type_size R < 2 ^ 63
        → Step K 𝓛 (‵ ((PlacesRow R).own_val (without_items (block_ptr b o) room) (places_val (block_ptr b o)
        0 room ∷ [])) ∷ Γ) G (‵ (froom (ty_array (lone R.mir) room) b o) ∷ ‵ (frees_room R (block_ptr b o) room) ∷ Γ) G
    places_made t b o room small fits = step (λ s. let τ : Ty = lone R.mir in let n : ℕ = type_size R in
        rewrite t 0 (λ (k : ℕ). ‵ (froom (ty_array τ k) b o)) (whole room) refl $
        rewrite t 0 (λ (k : ℕ). ‵ (froom (ty_array τ (room - 0)) b k)) (first o n) refl $
        as_raw t (ty_array τ (room - 0)) b (o + 0 * n) $ fjoin t $ nothing_more t $ feq_i t ℕ 0 0 refl $ fjoin t $
        use1 𝓛 (‵ (part_at (Array R 0) full_share [] b o)) (Array-whole 𝓛 R full_share 0 [] b o) $
        fjoin t $ flt_i t (room * n) (2 ^ 63) fits $ fjoin t $
        use0 𝓛 (‵ (places_words R (block_ptr b o) 0 room)) (words_made R 𝓛 (block_ptr b o) 0 room (lit< tt) small) $
        fjoin t $ s)
