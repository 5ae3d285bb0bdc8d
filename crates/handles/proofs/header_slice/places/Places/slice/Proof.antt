-- `slice` shows the items that the places lend. Assumes `Logic`.
use Rattle.handles.proofs.Places.{◌≡◌, ℕ, ◌^◌, ◌<◌, List, [], ◌∷◌, refl, sym, ap, ◌∙◌, subst, Val, id⊢, Lft, fhide, ‵}
use Rattle.handles.proofs.Places.{raw, ◌⊛◌, ◌$◌, !, by, move, keep, drop, split, fsplit, fjoin, use1, rewrite, feq_i}
use Rattle.handles.proofs.Places.{flt_i, flt_l, of_opd, field_behind, pair, first, blocks, returns, alloc_all, pass_all}
use Rattle.handles.proofs.Places.{free_all, look_at, get, sets, sets_last, whole, fact, fact_i, RattleType, Ptr}
use Rattle.handles.proofs.Places.{InBlock, block_ptr, block_of, offset_of, at_block, peeks, heard, looks, shuts, Is}
use Rattle.handles.proofs.Places.{shows, cell_at, param, PlacesRow, places_val, ◌*◌, ◌≤◌, type_size, slice_val, length}
use Rattle.handles.proofs.Places.{hidden_shr, in_block_says, words_open}
use native.Mathlib.Nat.{mul-le-mul_right, lt_of_le_of_lt}
use denote.Opens.{unhide, hide}
use denote.Struct.Owning.{to}
use Rattle.handles.specs.Inside.PlacesOwnership.{places_share}
use Rattle.handles.proofs.Places.Fields.{PlacesType, PlacesWords, words_are}
use Rattle.handles.specs.contracts.header_slice.places.Places.slice.{clauses}
use Rattle.handles.specs.contracts.header_slice.places.Places.slice.Key.{name as #self}
use Rattle.handles.proofs.header_slice.places.Places.slice.Statement.{statement}
use Rattle.handles.proofs.header_slice.places.Places.slice.Code as code
use Rattle.handles.proofs.Walks.OneParam.{by_ref, so}

pub slice_spec : {M : Type 1} → statement M
slice_spec 𝓤 𝓛 𝓜 𝓡 wired T L =
    let R : RattleType = param 0 T in by_ref (PlacesRow R) tt 𝓛 𝓜 𝓡 (clauses T 𝓛 𝓜.mem 𝓡.returns)
    (λ κs a. Unit {0}) (λ κs a gh. fact_i 𝓤 _ _ tt) T #self code.function (code.unfolded 𝓤 𝓛.H 𝓜 𝓡 wired (T, tt))
    (λ κs qs a gh Post asked ends go. let b : ℕ = a.ref_ptr.0 in let o : ℕ = a.ref_ptr.1 in let κ : Lft = κs.0 in
    let s = a.now in let p : Ptr = s.first in let pb : ℕ = block_of p in let po : ℕ = offset_of p in
    let D : RattleType = PlacesWords R in let O = PlacesType R in
    alloc_all ! (λ l. pass_all ! refl ((tt, tt), tt) $
    use1 𝓛 (‵ (hidden_shr D κ (to O s) b o) ⊛ ‵ (fhide (places_share R p s.filled s.room s.items κ)))
    (id⊢ 𝓤 _) $ split ! $ move ! (1 ∷ []) $ unhide ! $ fsplit ! $ flt_l ! (λ fit. fsplit ! $
    use1 𝓛 (raw (fact 𝓤 (InBlock p))) (in_block_says 𝓛 p) $ heard ! (InBlock p) (λ inb. fsplit ! $ drop ! $ hide ! $
    -- [the items; the fields; the token; the other tokens]
    let at : p ≡ block_ptr pb po = at_block p inb in let xs : List T.Denot = s.items in let n : ℕ = length xs in
    let long : s.filled ≡ n = s.within.0 in
    let small : n * type_size R < 2 ^ 63 = lt_of_le_of_lt (mul-le-mul_right (type_size R)
    (subst (λ (k : ℕ). k ≤ s.room) long s.within.1)) fit in
    move ! (1 ∷ 2 ∷ []) $ looks ! tt D (words_open R 𝓛) (to O s) b o (λ r vs. move ! (1 ∷ []) $
    peeks ! D (Is D) (shows 𝓛 D) (to O s) vs (λ is_so. let reported = words_are R p s.filled s.room vs is_so in
    let fits : s.filled < 2 ^ 64 = reported.1 in let ev : vs ≡ places_val (block_ptr pb po)
    s.filled s.room ∷ [] = reported.0 ∙ ap (λ (z : Ptr). places_val z s.filled s.room ∷ []) at in
    let Cell = λ (ws : List Val). ‵ (cell_at r D.mir ws b o) in rewrite ! 1 Cell ev refl $ first ! $ blocks ! $
    sets ! (field_behind ! 1 0 refl refl refl (whole !)) refl (tt, tt) $
    sets ! (field_behind ! 1 1 refl refl refl (whole !)) refl (tt, record { fits = fits }) $
    rewrite ! 1 Cell (sym ev) refl $ move ! (1 ∷ 0 ∷ 2 ∷ []) $ shuts ! tt D r (to O s) vs b o $
    move ! (1 ∷ []) $ drop ! $ sets_last ! (pair ! refl refl) refl (tt, (tt, (record { fits = fits }, tt))) $
    go.ahead l 1 $ sets ! (of_opd ! (get ! refl)) refl (tt, (tt, (record { fits = fits }, tt))) $
    move ! (1 ∷ []) $ flt_i ! (n * type_size R) (2 ^ 63) small $
    flt_i ! n (2 ^ 64) (subst (λ (k : ℕ). k < 2 ^ 64) long fits) $ fjoin ! $
    feq_i ! (List Val) (slice_val (pb, po) s.filled ∷ []) (slice_val (pb, po) n ∷ [])
    (ap (λ (k : ℕ). slice_val (pb, po) k ∷ []) long) $ fjoin ! $ fjoin ! $
    returns ! (look_at ! 0 refl) $ free_all ! refl $ keep ! (1 ∷ 2 ∷ 0 ∷ []) $
    by ! (ends (slice_val (pb, po) s.filled) (record { ref_ptr = (pb, po); now = xs }) (so 𝓤 refl))))))))
