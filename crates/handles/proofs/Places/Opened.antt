-- Places are taken apart and put together: the items, the room after them and the right to free the block.
-- Assumes `Logic`.
use Rattle.std.proofs.Common.{◌≡◌, ℕ, ◌*◌, ◌^◌, ◌<◌, List, [], ◌∷◌, refl, sym, ap, ◌∙◌}
use lib.ListN.{length, drop as skip}
use lib.Seq.{take_at}
use seplogic.Ra.Ura.{Ura}
use mir.Val.{Val}
use base.Fraction.{full_share}
use base.Logic.{ent, sep, id⊢, never}
use base.Fml.{Fml, fsep}
use types.Logic.{Logic, sem}
use types.Kit.{Item, Goal, Seq, Step, step, ‵, given, ◌$◌, ◌∵◌, !, qed, by, move, keep, use0, use1, learn, fsplit}
use types.Kit.{fsplit3, fjoin, fjoin3, fpack, flt_i, flt_l, rewrite, done}
use types.SemTy.{cells}
use denote.RattleType.{RattleType}
use denote.Laws.{Is, shows}
use denote.Memory.{cell_at, mem, part_at, part_of}
use denote.Index.{row, whole_in, whole_out}
use denote.Param.{param}
use denote.Param.Laws.{Laws}
use denote.Array.{Array}
use denote.RawPtr.{Ptr, block_ptr, null_ptr, in_a_block}
use denote.Steps.{facts}
use Rattle.std.specs.Mem.{type_size}
use Rattle.core.proofs.ptr.Rows.{El, apart, whole}
use Rattle.handles.specs.Inside.PlacesLending.{with_items}
use Rattle.handles.specs.Inside.PlacesOwnership.{spare, frees_room, places_own}
use Rattle.handles.proofs.Places.Fields.{places_val, places_words, PlacesRow, PlacesWords, words_are, words_made}

module _ (R : RattleType) where
  -- these places begin at (b, o), and their numbers fit
  pub record LieAt (first : Ptr) (filled room b o : ℕ) : Type 0 where
    pub at : first ≡ block_ptr b o
    pub filled_fits : filled < 2 ^ 64
    pub room_fits : room < 2 ^ 64
    pub bytes_fit : room * type_size R < 2 ^ 63

  -- all but the items: the room after them, the right to free the block, and the four words at (rb, ro)
  abbrev pub Beside : (PlacesRow R).Denot → ℕ → ℕ → ℕ → ℕ → Fml
  Beside d b o rb ro = fsep (spare R (block_ptr b o) d.filled d.room) (fsep (frees_room R (block_ptr b o) d.room)
      (cell_at full_share (PlacesRow R).mir (places_val (block_ptr b o) d.filled d.room ∷ []) rb ro))

  -- no places lie at null
  pub none_at_null : {M : Type 1} {𝓤 : Ura M} (𝓛 : Logic 𝓤) (filled room : ℕ) (items : List R.Denot)
      → ent 𝓤 (sem 𝓛 (places_own R null_ptr filled room items)) (never 𝓤)
  none_at_null {𝓤 = 𝓤} 𝓛 filled room items = qed 𝓛 (‵ (places_own R null_ptr filled room items) ∷ [])
      ∵ fsplit3 ! $ move ! (1 ∷ []) $ keep ! (0 ∷ []) $ by ! (id⊢ 𝓤 (never 𝓤))

  -- the items, the room after them and the right to free the block, before what else there is
  abbrev Parts : {M : Type 1} {𝓤 : Ura M} → (PlacesRow R).Denot → ℕ → ℕ → List (Item 𝓤) → List (Item 𝓤)
  Parts d b o Γ = ‵ (part_at (Array R d.filled) full_share d.items b o) ∷ ‵ (spare R (block_ptr b o) d.filled d.room)
      ∷ ‵ (frees_room R (block_ptr b o) d.room) ∷ Γ

  module _ {M : Type 1} {𝓤 : Ura M} {𝓛 : Logic 𝓤} {K : Type 0} {Γ : List (Item 𝓤)} {G : Goal 𝓤
      𝓛.H} where
    -- places are taken apart
    pub places_opens : K → (d : (PlacesRow R).Denot) (vs : List Val)
        → ((b o : ℕ) → LieAt d.first d.filled d.room b o → vs ≡ places_val (block_ptr b o) d.filled d.room ∷ []
        → Seq K 𝓛 (Parts d b o Γ) G) → Seq K 𝓛 (‵ ((PlacesRow R).own_val d vs) ∷ Γ) G
    places_opens t d vs k = fsplit t $
        facts t (PlacesWords R) (Is (PlacesWords R)) (shows 𝓛 (PlacesWords R)) (d.first, (d.filled, (d.room, tt)))
        vs (λ is. let reported = words_are R d.first d.filled d.room vs is in
        in_a_block t d.first (λ p. places_own R p d.filled d.room d.items) (none_at_null 𝓛 d.filled d.room d.items)
        (λ b o at. fsplit t $ flt_l t (λ fits. fsplit3 t $
        k b o (record { at = at; filled_fits = reported.1; room_fits = reported.2; bytes_fit = fits })
        (reported.0 ∙ ap (λ (p : Ptr). places_val p d.filled d.room ∷ []) at))))

    -- put together again
    pub places_shuts : K → (d : (PlacesRow R).Denot) (b o : ℕ) → LieAt d.first d.filled d.room b o
        → Step K 𝓛 (‵ ((PlacesRow R).own_val d (places_val (block_ptr b o) d.filled d.room ∷ [])) ∷ Γ) G
        (Parts d b o Γ) G
    places_shuts t d b o lie = step (λ s. let v : Val = places_val (block_ptr b o) d.filled d.room in
        fjoin3 t $ flt_i t (d.room * type_size R) (2 ^ 63) lie.bytes_fit $ fjoin t $
        use0 𝓛 (‵ (places_words R (block_ptr b o) d.filled d.room))
        (words_made R 𝓛 (block_ptr b o) d.filled d.room lie.filled_fits lie.room_fits) $ fjoin t $
        rewrite t 0 (λ (p : Ptr). ‵ (fsep ((PlacesWords R).own_val (p, (d.filled, (d.room, tt))) (v ∷ []))
        (places_own R p d.filled d.room d.items))) (sym lie.at) refl $ s)

module _ (T : RattleType) (L : Laws T) {M : Type 1} {𝓤 : Ura M} (𝓛 : Logic 𝓤)
    (d : (PlacesRow (param 0 T)).Denot) (b o : ℕ) where
  abbrev R : RattleType
  R = param 0 T

  abbrev element : El
  element = record { row = T; laws = L }

  -- the items, each in its place
  pub items_out : ent 𝓤 (sem 𝓛 (part_at (Array R d.filled) full_share d.items b o)) (sem 𝓛 (cells (mem R)
      d.items b o))
  items_out = qed 𝓛 (‵ (part_at (Array R d.filled) full_share d.items b o) ∷ []) ∵
      use1 𝓛 (given (length d.items ≡ d.filled) (‵ (row R full_share d.items b o)))
      (apart element 𝓛 full_share d.filled d.items b o) $ learn ! (λ _. by ! (whole_in 𝓛 R d.items b o))

  -- items that were lent and written come back
  pub items_back : LieAt R d.first d.filled d.room b o
      → (rb ro : ℕ) (written : List T.Denot) → length written ≡ length d.items
      → ent 𝓤 (sep 𝓤 (sem 𝓛 (cells (mem R) written b o)) (sem 𝓛 (Beside R d b o rb ro)))
      (sem 𝓛 ((mem (PlacesRow R)).own_at (with_items d written) rb ro))
  unfolding part_of
  items_back lie rb ro written same = let new : (PlacesRow R).Denot = with_items d
      written in
      let all : new.items ≡ written = take_at written (skip (length written) d.items) (length d.items) same in
      qed 𝓛 (‵ (cells (mem R) written b o) ∷ ‵ (Beside R d b o rb ro) ∷ [])
      ∵ use1 𝓛 (‵ (row R full_share written b o)) (whole_out 𝓛 R written b o) $
      use1 𝓛 (‵ (part_at (Array R d.filled) full_share written b o))
      (whole element 𝓛 full_share d.filled written b o (same ∙ sym d.within.0)) $
      rewrite ! 0 (λ (items : List T.Denot). ‵ (part_at (Array R d.filled) full_share items b o)) (sym all) refl $
      move ! (1 ∷ []) $ fsplit3 ! $
      -- [the room; the right to free; the words; the items]
      move ! (3 ∷ 0 ∷ 1 ∷ []) $ places_shuts R ! new b o lie $
      move ! (1 ∷ 0 ∷ []) $ fjoin ! $
      fpack ! (List Val) (λ us. fsep (cell_at full_share (PlacesRow R).mir us rb ro) ((PlacesRow R).own_val new us))
      (places_val (block_ptr b o) d.filled d.room ∷ []) $ done !
