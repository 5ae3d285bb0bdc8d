-- The fields of places as one machine value, and places as their fields. Assumes `Logic`.
use Rattle.std.proofs.Common.{◌≡◌, ℕ, ◌^◌, ◌<◌, List, [], ◌∷◌, ◌++◌, refl, ◌∙◌, w64}
use seplogic.Ra.Ura.{Ura}
use mir.Val.{Val, vint, vstruct, vcons, vnil, of_list}
use base.Fml.{Fml}
use base.Logic.{ent, emp}
use types.Logic.{Logic, sem}
use denote.RattleType.{RattleType}
use denote.Laws.{Is}
use denote.RawPtr.{Ptr, ptr_val}
use denote.Shadow.{makes_shadow}
use denote.Struct.Struct.{Struct}
use denote.Struct.Owning.{shape}
pub use Rattle.handles.specs.contracts.header_slice.places.Places.{the_type as PlacesType, the_row as PlacesRow}

-- places as one machine value
abbrev pub places_val : Ptr → ℕ → ℕ → Val
places_val p filled room = vstruct (vcons (ptr_val p) (vcons (vint w64 filled) (vcons (vint w64 room) vnil)))

module _ (R : RattleType) where
  -- the fields, as a plain struct
  abbrev pub PlacesWords : RattleType
  PlacesWords = Struct (shape (PlacesType R))

  -- the fields tell the machine value, and that the numbers fit their words
  pub words_are : (p : Ptr) (filled room : ℕ) (vs : List Val) → Is PlacesWords (p, (filled, (room, tt))) vs
      → (vs ≡ places_val p filled room ∷ []) × (filled < 2 ^ 64) × (room < 2 ^ 64)
  words_are p filled room vs is = (
    is.1.0 ∙ (λ j. vstruct (of_list (is.1.1.0 j ++ (is.1.1.1.0.0 j ++
        (is.1.1.1.1.0.0 j ++ [])))) ∷ []),
    is.1.1.1.0.1,
    is.1.1.1.1.0.1,
  )

  -- the fields with what they own
  abbrev pub places_words : Ptr → ℕ → ℕ → Fml
  places_words p filled room = PlacesWords.own_val (p, (filled, (room, tt))) (places_val p filled room ∷ [])

  -- numbers that fit their words make the fields
  pub words_made : {M : Type 1} {𝓤 : Ura M} (𝓛 : Logic 𝓤) (p : Ptr) (filled room : ℕ)
      → filled < 2 ^ 64 → room < 2 ^ 64 → ent 𝓤 (emp 𝓤) (sem 𝓛 (places_words p filled room))
  words_made 𝓛 p filled room small_filled small_room = makes_shadow 𝓛 (places_words p filled room)
      (λ vss. (tt, (tt, ((tt, tt), ((tt, tt), tt))))) (
        (ptr_val p ∷ [], (vint w64 filled ∷ [], (vint w64 room ∷ [], tt))),
        (refl, (refl, ((refl, small_filled), ((refl, small_room), tt)))),
      )
