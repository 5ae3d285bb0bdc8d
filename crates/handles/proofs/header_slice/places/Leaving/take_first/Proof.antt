-- `take_first` reads the first item that is left, and its place is empty.
use Rattle.handles.proofs.Places.{◌≡◌, ℕ, ◌+◌, ◌-◌, ◌^◌, ◌<◌, List, [], ◌∷◌, refl, sym, ap, ◌∙◌, arith, named, Val}
use Rattle.handles.proofs.Places.{vptr, full_share, Lft, Share, ftrue, flft, ‵, raw, ◌⊛◌, ◌$◌, ◌∵◌, !, qed, by, move}
use Rattle.handles.proofs.Places.{keep, drop, split, join, fsplit, fsplit3, fjoin, fjoin3, pick, learn, use0}
use Rattle.handles.proofs.Places.{use1, use2, rewrite, feq_i, flt_i, flt_l, stop, fld, load, lit, of_opd, first, blocks}
use Rattle.handles.proofs.Places.{returns, alloc_all, pass_all, free_all, look_at, get, through, sets, sets_last, sub}
use Rattle.handles.proofs.Places.{whole, fact, RattleType, owns, types_at, plain, Ptr, nothing_more, peeks, heard, Is}
use Rattle.handles.proofs.Places.{shows, cell_at, param, param_laws, elτ, one_below, sz, times_below, LeavingRow}
use Rattle.handles.proofs.Places.{leaving_val, leaving_made, leaving_words, none_at_null, leaving_own, ◌*◌, ◌≤◌, as_raw}
use Rattle.handles.proofs.Places.{as_written, froom, Array, part_at, in_a_block, mut_Tells, mut_vals, closes, opens}
use Rattle.handles.proofs.Places.{Goes-ref, stay_ref, length, ty_array, store_in, assigns, bin, size_lit, look}
use Rattle.handles.proofs.Places.{first_of, first_and_others, first_out, room_after, at_type, walks, field_behind}
use Rattle.handles.proofs.Places.{known}
use Rattle.core.proofs.ptr.Rows.{El}
use Rattle.handles.proofs.header_slice.places.Leaving.TheLaws.{lowers}
use Rattle.handles.specs.contracts.header_slice.places.Leaving.take_first.{ended, clauses}
use Rattle.handles.specs.contracts.header_slice.places.Leaving.take_first.Key.{name as #self}
use Rattle.handles.proofs.header_slice.places.Leaving.take_first.Statement.{statement}
use Rattle.handles.proofs.header_slice.places.Leaving.take_first.Code as code

pub take_first_spec : {M : Type 1} → statement M
take_first_spec 𝓤 𝓛 𝓜 𝓡 wired T L =
    let R : RattleType = param 0 T in let E : El = record { row = T; laws = L } in
    let Self : RattleType = LeavingRow R in let row = plain (λ _. Self) in
    walks (at_type T) code.function 𝓛 𝓜 𝓡 (ended T) (stay_ref (0 ∷ []) tt row, tt) (clauses T 𝓛 𝓜.mem 𝓡.returns)
    (Goes-ref 𝓛 2 0 tt row, tt) #self (code.unfolded 𝓤 𝓛.H 𝓜 𝓡 wired (T, tt))
    (λ κs. (mut_vals, tt)) (λ κs. (mut_Tells (named 0) κs.0 Self, tt)) (λ κs qs bounds a gh are go ends.
    let b : ℕ = a.0.ref_ptr.0 in let o : ℕ = a.0.ref_ptr.1 in let κ : Lft = κs.0 in let q : Share = qs.0 in
    let me : Self.Denot = a.0.now in let p : Ptr = me.first in let taken : ℕ = me.taken in
    let filled : ℕ = me.filled in let room : ℕ = me.room in let others = ‵ (flft κs.1.0 qs.1.0) ⊛ ‵ ftrue in
    qed 𝓛 (((‵ (flft κ q) ⊛ others) ⊛ ‵ (owns (types_at (ended T).signature.params κs) a (vptr b o ∷ [], tt)))
    ∷ raw (fact 𝓤 _) ∷ raw (fact 𝓤 (0 < length me.items)) ∷ []) ∵
    keep ! (2 ∷ 0 ∷ []) $ heard ! (0 < length me.items) (λ asked. let one = first_of me.items asked in
    let x : T.Denot = one.0 in let later : List T.Denot = one.1.0 in let is_first : me.items ≡ x ∷ later = one.1.1 in
    split ! $ split ! $ move ! (2 ∷ []) $ fsplit ! $ fsplit3 ! $ keep ! (1 ∷ 2 ∷ 4 ∷ 5 ∷ []) $
    -- [the reference's two parts; its token; the other tokens]
    go.enters (vptr b o ∷ []) refl $ alloc_all ! (λ l. pass_all ! refl ((tt, tt), tt) $
    opens ! tt Self {h = me} b o (λ vs. move ! (1 ∷ []) $ peeks ! Self (Is Self) (shows 𝓛 Self) me vs (λ is.
    let taken_fits : taken < 2 ^ 64 = is.0.1.1.1.0.1 in let filled_fits : filled < 2 ^ 64 = is.0.1.1.1.1.0.1 in
    let room_fits : room < 2 ^ 64 = is.0.1.1.1.1.1.0.1 in let word = (lowers R (param_laws 0 T L)).val_is me vs is in
    fsplit ! $ drop ! $ in_a_block ! p (λ z. leaving_own R z taken filled room me.items)
    (none_at_null R 𝓛 taken filled room me.items) (λ pb po at. fsplit3 ! $ flt_l ! (λ fit. move ! (1 ∷ []) $ fsplit ! $
    let s : ℕ = sz E in let count : filled ≡ taken + length me.items = me.within.0 in
    let enough : filled ≤ room = me.within.1 in let below : taken < room = omega arith in
    let up : taken + 1 < 2 ^ 64 = omega arith in
    let tiny : s < 2 ^ 64 = omega (arith, one_below room s (2 ^ 63) (omega arith) fit) in
    let far : taken * s < 2 ^ 64 = omega (arith, times_below taken room s (2 ^ 63) (omega arith) fit) in
    -- [the items; what is after them; the room before them; the cell; the open borrow; its two names; the other tokens]
    rewrite ! 0 (λ (xs : List T.Denot). ‵ (part_at (Array R (filled - taken)) full_share xs pb (po + taken * s)))
    is_first refl $
    use1 𝓛 (first_and_others E 𝓛 pb po taken filled x later) (first_out E 𝓛 pb po taken filled x later) $
    pick ! (λ v. learn ! (λ good. split ! $ split ! $
    rewrite ! 5 (λ (ws : List Val). ‵ (cell_at full_share Self.mir ws b o))
    (word ∙ ap (λ (z : Ptr). leaving_val z taken filled room ∷ []) at) refl $
    -- [the first item's cell; what it owns; the other items; what is after them; the room before them; the cell; the
    -- open borrow; its two names; the other tokens]
    sets ! (field_behind ! 5 1 refl refl refl (whole !)) refl (tt, record { fits = taken_fits }) $
    sets ! (bin ! (get ! refl) (lit ! tt) (record { fits = up })) refl (tt, record { fits = up }) $
    assigns ! (of_opd ! (get ! refl)) (through ! refl (fld ! refl (stop !))) (store_in ! 5 (sub ! 1 refl (whole !))
    (tt, record { fits = up })) $ first ! $ blocks ! $
    sets ! (field_behind ! 5 0 refl refl refl (whole !)) refl (tt, tt) $
    sets ! (bin ! (get ! refl) (size_lit ! (record { fits = tiny })) (record { fits = far }))
    refl (tt, record { fits = far }) $ sets ! (bin ! (get ! refl) (get ! refl) tt) refl (tt, tt) $
    sets_last ! (of_opd ! (load ! (through ! refl (stop !)) (look ! 0 refl))) refl good $
    go.ahead l 4 $ sets ! (of_opd ! (get ! refl)) refl good $
    let new : Self.Denot = record {
      first = p;
      taken = taken + 1;
      filled = filled;
      room = room;
      items = later;
      within = (omega (arith, ap length is_first), enough);
    } in move ! (4 ∷ 0 ∷ []) $ as_written ! (ty_array (elτ E) taken) pb po $
    use2 𝓛 (‵ (froom (ty_array (elτ E) (taken + 1)) pb po)) (room_after E 𝓛 pb po taken filled v) $
    as_raw ! (ty_array (elτ E) (taken + 1)) pb po $
    move ! (2 ∷ 3 ∷ []) $ fjoin ! $ move ! (1 ∷ 0 ∷ []) $ fjoin ! $ flt_i ! (room * s) (2 ^ 63) fit $
    fjoin ! $ rewrite ! 0 (λ (z : Ptr). ‵ (leaving_own R z (taken + 1) filled room later)) (sym at) refl $
    use0 𝓛 (‵ (leaving_words R p (taken + 1) filled room))
    (leaving_made R 𝓛 p (taken + 1) filled room (up, (filled_fits, (room_fits, tt)))) $ fjoin ! $
    rewrite ! 2 (λ (ws : List Val). ‵ (cell_at full_share Self.mir ws b o))
    (ap (λ (z : Ptr). leaving_val z (taken + 1) filled room ∷ []) (sym at)) refl $ move ! (2 ∷ 0 ∷ 3 ∷ 4 ∷ 5 ∷ []) $
    closes ! tt Self new (leaving_val p (taken + 1) filled room ∷ []) b o $
    -- [the reference's two parts; its token; what the item owns; the other tokens]
    feq_i ! (List Val) (vptr b o ∷ []) (vptr b o ∷ []) refl $ fjoin3 ! $ nothing_more ! $
    move ! (1 ∷ 0 ∷ []) $ fjoin ! $ move ! (1 ∷ 3 ∷ []) $ join ! $
    known ! (me.items ≡ x ∷ later) is_first $ returns ! (look_at ! 0 refl) $ free_all ! refl $
    keep ! (1 ∷ 2 ∷ 3 ∷ 0 ∷ []) $ by ! (ends v x (new, tt) (tt, tt)))))))))))
