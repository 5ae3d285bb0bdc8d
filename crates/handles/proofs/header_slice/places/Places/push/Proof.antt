-- `push` writes an item into the first place after the others.
use Rattle.handles.proofs.Places.{ℕ, ◌+◌, ◌-◌, ◌^◌, ◌<◌, List, [], ◌∷◌, ◌++◌, refl, sym, ap, ◌∙◌, arith, Val, vptr}
use Rattle.handles.proofs.Places.{vunit, full_share, ftrue, flft, ‵, raw, ◌⊛◌, ◌$◌, ◌∵◌, !, qed, move, keep, drop}
use Rattle.handles.proofs.Places.{split, split3, join, fsplit3, fjoin, fjoin3, use1, use2, rewrite, feq_i, suffices}
use Rattle.handles.proofs.Places.{done, unit_lit, stop, fld, lit, of_opd, first, blocks, returns, alloc_all, pass_all}
use Rattle.handles.proofs.Places.{free_all, look_at, get, through, sets, sub, whole, fact, no, RattleType, owns}
use Rattle.handles.proofs.Places.{types_at, plain, block_ptr, nothing_more, heard, cell_at, param, Stays, stay_dropped}
use Rattle.handles.proofs.Places.{Goes-dropped, elτ, one_below, sz, times_below, PlacesRow, places_val, places_opens}
use Rattle.handles.proofs.Places.{◌*◌, as_raw, as_written, froom, Array, part_at, closes, opens, Goes-ref, stay_ref}
use Rattle.handles.proofs.Places.{ty_array, store_in, assigns, bin, size_lit, init, assigns_last, ends_at, el_in, spare}
use Rattle.handles.proofs.Places.{snoc, places_shuts, at_type, walks_at, field_behind}
use lib.ListN.{length-append}
use Rattle.core.proofs.mem.Facts.{says_two}
use Rattle.core.proofs.mem.Param as param_steps
use Rattle.core.proofs.ptr.Rows.{El}
use Rattle.handles.specs.contracts.header_slice.places.Places.push.{ended, clauses}
use Rattle.handles.specs.contracts.header_slice.places.Places.push.Key.{name as #self}
use Rattle.handles.proofs.header_slice.places.Places.push.Statement.{statement}
use Rattle.handles.proofs.header_slice.places.Places.push.Code as code

pub push_spec : {M : Type 1} → statement M
push_spec 𝓤 𝓛 𝓜 𝓡 wired T L =
    let R : RattleType = param 0 T in let En = ended T in let c = clauses T 𝓛 𝓜.mem 𝓡.returns in
    let Self : RattleType = PlacesRow R in
    let E : El = record { row = T; laws = L } in
    let places = plain (λ _. Self) in let item = plain (λ _. R) in
    let hs : Stays En.signature.params En.kept = (stay_ref (0 ∷ []) tt places, (stay_dropped item no, tt)) in
    walks_at (at_type T) code.function 𝓛 𝓜 𝓡 En hs c
    (Goes-ref 𝓛 2 0 tt places, (Goes-dropped 𝓛 2 item no (λ κs x f. refl), tt))
    #self (code.unfolded 𝓤 𝓛.H 𝓜 𝓡 wired (T, tt)) (λ z are go ends.
    let κs = z.0.0 in let qs = z.0.1 in let me = z.0.3.0 in let h : Self.Denot = me.now in
    let x : T.Denot = z.0.3.1.0 in let rb : ℕ = me.ref_ptr.0 in let ro : ℕ = me.ref_ptr.1 in
    let n : ℕ = h.filled in let room : ℕ = h.room in let xs : List T.Denot = h.items in let s : ℕ = sz E in
    let P : param_steps.El = record { row = T; laws = L } in
    let is_item = param_steps.one P z.0.4.1.0 ((param_steps.lawful P 𝓛).typed x z.0.4.1.0 are.1.0) in
    let v : Val = is_item.0 in let toks = ‵ (flft κs.0 qs.0) ⊛ ‵ (flft κs.1.0 qs.1.0) ⊛ ‵ ftrue in
    qed 𝓛 ((toks ⊛ ‵ (owns (types_at En.signature.params κs) z.0.3 z.0.4)) ∷ raw (fact 𝓤 _)
    ∷ raw (fact 𝓤 (n < room)) ∷ []) ∵
    keep ! (2 ∷ 0 ∷ []) $ heard ! (n < room) (λ below. split ! $ split3 ! $ move ! (3 ∷ []) $ fsplit3 ! $
    fsplit3 ! $ drop ! $ move ! (0 ∷ 1 ∷ 4 ∷ 2 ∷ []) $
    -- [the reference's two parts; its token; the item; nothing; the token of T]
    rewrite ! 3 (λ (us : List Val). ‵ (T.own_val x us)) is_item.1 refl $ go.enters (vptr rb ro ∷ v ∷ [])
    (λ j. are.0.0 j ++ (is_item.1 j ++ [])) $
    alloc_all ! (λ l. pass_all ! refl ((tt, tt), (is_item.2, tt)) $
    opens ! tt Self {h = h} rb ro (λ vs. move ! (1 ∷ []) $
    places_opens R ! h vs (λ b o lie words. let τ = elτ E in
    let tiny : s < 2 ^ 64 = omega (arith, one_below room s (2 ^ 63) (omega arith) lie.bytes_fit) in
    let more : n + 1 < 2 ^ 64 = omega arith in
    let far : n * s < 2 ^ 64 = omega (arith, times_below n room s (2 ^ 63) (omega arith) lie.bytes_fit) in
    let new : Self.Denot = record {
      first = block_ptr b o;
      filled = n + 1;
      room = room;
      items = xs ++ x ∷ [];
      within = (ap (λ (k : ℕ). k + 1) h.within.0 ∙ sym (length-append xs (x ∷ [])), omega arith);
    } in rewrite ! 3 (λ (us : List Val). ‵ (cell_at full_share Self.mir us rb ro)) words refl $ move ! (1 ∷ []) $
    as_written ! (ty_array τ (room - n)) b (o + n * s) $
    use1 𝓛 (‵ (froom τ b (n * s + o)) ⊛ ‵ (froom (ty_array τ (room - (n + 1))) b (o + (n + 1) * s)))
    (spare E 𝓛 b o n room below) $ split ! $
    -- [the place; the room after it; the items; the right to free; the cell; the open borrow; its two names; the
    -- item; nothing; the token of T]
    sets ! (field_behind ! 4 1 refl refl refl (whole !)) refl (tt, record { fits = lie.filled_fits }) $ first ! $
    blocks ! $ sets ! (field_behind ! 4 0 refl refl refl (whole !)) refl (tt, tt) $
    sets ! (bin ! (get ! refl) (size_lit ! (record { fits = tiny })) (record { fits = far }))
    refl (tt, record { fits = far }) $
    sets ! (bin ! (get ! refl) (get ! refl) tt) refl (tt, tt) $ sets ! (of_opd ! (get ! refl)) refl is_item.2 $
    assigns_last ! (of_opd ! (get ! refl)) (through ! refl (stop !)) (init ! 0 refl is_item.2) $ go.ahead l 2 $
    sets ! (bin ! (get ! refl) (lit ! tt) (record { fits = more })) refl (tt, record { fits = more }) $
    assigns ! (of_opd ! (get ! refl)) (through ! refl (fld ! refl (stop !)))
    (store_in ! 4 (sub ! 1 refl (whole !)) (tt, record { fits = more })) $
    sets ! (of_opd ! (unit_lit !)) refl (tt, tt) $ move ! (0 ∷ 8 ∷ []) $
    use2 𝓛 (‵ (part_at R full_share x b (n * s + o))) (el_in E 𝓛 full_share x b (n * s + o) v) $
    move ! (2 ∷ 0 ∷ []) $ use2 𝓛 (‵ (part_at (Array R (n + 1)) full_share (xs ++ x ∷ []) b o))
    (snoc E 𝓛 b o n xs x) $ move ! (1 ∷ []) $ as_raw ! (ty_array τ (room - (n + 1))) b (o + (n + 1) * s) $
    move ! (1 ∷ []) $ places_shuts R ! new b o
    (record { at = refl; filled_fits = more; room_fits = lie.room_fits; bytes_fit = lie.bytes_fit }) $ move ! (1 ∷ []) $
    closes ! tt Self new (places_val (block_ptr b o) (n + 1) room ∷ []) rb ro $
    -- [the reference's two parts; its token; nothing; the token of T]
    returns ! (look_at ! 0 refl) $ free_all ! refl $ feq_i ! (List Val) z.0.4.0 (vptr rb ro ∷ []) are.0.0 $
    fjoin3 ! $ nothing_more ! $ move ! (3 ∷ 0 ∷ []) $ fjoin ! $ move ! (1 ∷ 0 ∷ []) $ fjoin ! $
    move ! (2 ∷ 3 ∷ []) $ join ! $ move ! (2 ∷ 0 ∷ []) $ join ! $
    feq_i ! (List Val) (vunit ∷ []) (vunit ∷ []) refl $ move ! (1 ∷ 2 ∷ 0 ∷ []) $
    suffices ! _ (ends_at 𝓛 En hs c z vunit tt (new, (tt, tt)) (tt, (tt, tt))) $ says_two ! (refl, refl) $ done !)))))
