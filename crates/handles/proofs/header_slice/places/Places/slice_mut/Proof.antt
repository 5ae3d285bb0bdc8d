-- `slice_mut` lends the items, and the places follow them.
use Rattle.handles.proofs.Places.{◌≡◌, ℕ, ◌^◌, ◌<◌, List, [], ◌∷◌, refl, sym, arith, named, Val, vptr, full_share}
use Rattle.handles.proofs.Places.{SProp, Lft, Share, ftrue, flft, sem, ‵, raw, ◌⊛◌, some, later, ◌$◌, ◌∵◌, !, qed, by}
use Rattle.handles.proofs.Places.{move, keep, drop, split, split3, join, fsplit, fsplit3, fjoin, fjoin3, pick, use1}
use Rattle.handles.proofs.Places.{await, rewrite, of_opd, field_behind, first, blocks, returns, alloc_all, pass_all}
use Rattle.handles.proofs.Places.{free_all, look_at, get, sets, sets_last, whole, fact, pair, no, RattleType, owns}
use Rattle.handles.proofs.Places.{types_at, plain, nothing_more, cell_at, param, stay_dropped, times_below, PlacesRow}
use Rattle.handles.proofs.Places.{places_opens, ◌*◌, type_size, Array, mut_Tells, mut_vals, slice_val, opens, length}
use Rattle.handles.proofs.Places.{GName, group, mem, Goes-spent_ref, Beside, items_out, items_back, at_type, walks}
use Rattle.handles.proofs.Places.{known}
use types.SemTy.{cells}
use denote.Follow.{follows}
use denote.FollowSlice.{lends_Elements}
use denote.Ref.{MutBor}
use denote.Signature.{mut_ref_to}
use denote.Slice.{MutSlice}
use Rattle.handles.specs.Inside.PlacesLending.{with_items}
use Rattle.handles.specs.contracts.header_slice.places.Places.slice_mut.{ended, clauses}
use Rattle.handles.specs.contracts.header_slice.places.Places.slice_mut.Key.{name as #self}
use Rattle.handles.proofs.header_slice.places.Places.slice_mut.Statement.{statement}
use Rattle.handles.proofs.header_slice.places.Places.slice_mut.Code as code

pub slice_mut_spec : {M : Type 1} → statement M
slice_mut_spec 𝓤 𝓛 𝓜 𝓡 wired T L =
    let R : RattleType = param 0 T in let Self : RattleType = PlacesRow R in let places = plain (λ _. Self) in
    walks (at_type T) code.function 𝓛 𝓜 𝓡 (ended T) (stay_dropped (mut_ref_to (0 ∷ []) tt places) no, tt)
    (clauses T 𝓛 𝓜.mem 𝓡.returns) (Goes-spent_ref 𝓛 2 (0 ∷ []) tt places, tt) #self
    (code.unfolded 𝓤 𝓛.H 𝓜 𝓡 wired (T, tt)) (λ κs. (mut_vals, tt)) (λ κs.
    (mut_Tells (named 0) κs.0 Self, tt)) (λ κs qs bounds a gh are go ends.
    let κ : Lft = κs.0 in let q : Share = qs.0 in let h : Self.Denot = a.0.now in
    let γ : GName = a.0.ghost_name in let rb : ℕ = a.0.ref_ptr.0 in let ro : ℕ = a.0.ref_ptr.1 in
    let xs : List T.Denot = h.items in let toks = ‵ (flft κ q) ⊛ ‵ (flft κs.1.0 qs.1.0) ⊛ ‵ ftrue in
    qed 𝓛 ((toks ⊛ ‵ (owns (types_at (ended T).signature.params κs) a (vptr rb ro ∷ [], tt)))
    ∷ raw (fact 𝓤 _) ∷ ‵ ftrue ∷ []) ∵
    keep ! (0 ∷ []) $ split ! $ split3 ! $ move ! (3 ∷ []) $ fsplit ! $ fsplit3 ! $ drop ! $
    go.enters (vptr rb ro ∷ []) refl $ alloc_all ! (λ l. pass_all ! refl ((tt, tt), tt) $
    -- [the reference's two parts; its token; nothing; the token of T]
    move ! (0 ∷ 1 ∷ 3 ∷ []) $ opens ! tt Self {h = h} rb ro (λ vs. move ! (1 ∷ []) $
    places_opens R ! h vs (λ b o lie words.
    let roomy : length xs < 2 ^ 64 = omega (arith, h.within.0, h.within.1) in
    let fitting : length xs * type_size R < 2 ^ 63 = times_below (length xs) h.room (type_size R) (2 ^ 63)
    (omega (arith, h.within.0, h.within.1)) lie.bytes_fit in let Rest : SProp 𝓤 = sem 𝓛 (Beside R h b o rb ro) in
    let back = items_back T L 𝓛 h b o lie rb ro in
    rewrite ! 3 (λ (us : List Val). ‵ (cell_at full_share Self.mir us rb ro)) words refl $ first ! $ blocks ! $
    sets ! (field_behind ! 3 0 refl refl refl (whole !)) refl (tt, tt) $
    sets ! (field_behind ! 3 1 refl refl refl (whole !)) refl (tt, record { fits = lie.filled_fits }) $
    sets_last ! (pair ! refl refl) refl (tt, (tt, (record { fits = lie.filled_fits }, tt))) $ go.ahead l 1 $
    sets ! (of_opd ! (get ! refl)) refl (tt, (tt, (record { fits = lie.filled_fits }, tt))) $
    use1 𝓛 (‵ (cells (mem R) xs b o)) (items_out T L 𝓛 h b o) $ move ! (1 ∷ 2 ∷ 3 ∷ []) $ fjoin3 ! $
    move ! (2 ∷ 3 ∷ 4 ∷ 1 ∷ 0 ∷ []) $ group ! 5 $ use1 𝓛 (later (some (λ (δ : GName). ‵ ((MutSlice (named 0)
    κ R).own_val (record { ref_ptr = (b, o); ghost_name = δ; now = xs }) (slice_val (b, o) (length xs) ∷ []))
    ⊛ ‵ (flft κ q) ⊛ ‵ (follows Self (Array R 0) γ δ (with_items h)))))
    (lends_Elements 𝓛 Self R (with_items h) (named 0) κ q rb ro b o γ xs (roomy, fitting)
    Rest back (Self.coded.code h) (Self.coded.code h)) $ await ! tt $ pick ! (λ δ.
    let lent : MutBor (List T.Denot) = record { ref_ptr = (b, o); ghost_name = δ; now = xs } in split3 ! $
    rewrite ! 0 (λ (k : ℕ). ‵ ((MutSlice (named 0) κ R).own_val lent (slice_val (b, o) k ∷ []))) (sym h.within.0) refl $
    -- [the result; the reference's token; what follows; nothing; the token of T]
    move ! (4 ∷ 5 ∷ []) $ join ! $ move ! (2 ∷ 0 ∷ []) $ join ! $
    known ! (xs ≡ xs) refl $ move ! (3 ∷ 0 ∷ []) $ join ! $ nothing_more ! $ nothing_more ! $ fjoin ! $
    returns ! (look_at ! 0 refl) $ free_all ! refl $ keep ! (2 ∷ 0 ∷ 3 ∷ 1 ∷ []) $
    by ! (ends (slice_val (b, o) h.filled) lent (tt, tt) (tt, tt)))))))
