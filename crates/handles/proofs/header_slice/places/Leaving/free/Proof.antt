-- `free` makes room of the places, and frees their block if they take bytes.
use Rattle.handles.proofs.Places.{◌≡◌, ℕ, ◌+◌, ◌-◌, ◌^◌, ◌<◌, Bool, List, [], ◌∷◌, refl, sym, ap, ◌∙◌, subst, arith}
use Rattle.handles.proofs.Places.{w64, named, Val, vint, vptr, vunit, SProp, Lft, Share, ftrue, flft, ‵, raw, ◌⊛◌}
use Rattle.handles.proofs.Places.{given, later, ◌$◌, ◌∵◌, !, qed, by, move, keep, drop, split, join, fsplit, fsplit3}
use Rattle.handles.proofs.Places.{fjoin3, learn, use1, use2, use3, await, rewrite, feq_i, flt_l, unit_lit, lit, of_opd}
use Rattle.handles.proofs.Places.{no_more, and_then, first, blocks, returns, alloc_all, pass_all, free_all, look_at}
use Rattle.handles.proofs.Places.{get, sets, lands_last, is, whole, fact, yes, no, RattleType, owns, types_at, plain}
use Rattle.handles.proofs.Places.{Ptr, block_ptr, ptr_val, nothing_more, heard, param, param_laws, RefOf, shr_vals}
use Rattle.handles.proofs.Places.{shr_Tells, Stays, stay_dropped, walk_of, Goes-dropped, fm, heap, spared, run_framed}
use Rattle.handles.proofs.Places.{⊑_static, Global, Goes-blank, elτ, sz, uncapped, LeavingRow, words-Good, leaving_val}
use Rattle.handles.proofs.Places.{none_at_null, right_to_free, leaving_own, ◌*◌, as_raw, as_written, owns_if, froom}
use Rattle.handles.proofs.Places.{in_a_block, length, ty_array, capped_fits, align, capped, align_word, bin, size_word}
use Rattle.handles.proofs.Places.{Holds, has_ty, WT, Sq, prop, branches, skips, whole_room, at_type, walks, field_in}
use mir.Raw.{raw as bare}
use mir.Syntax.{Ty, ty_unit}
use prog.Capped.{capped_is}
use prog.RawLaws.{size-raw, align-raw}
use denote.Triple.Call.{calls_at_last}
use Rattle.core.proofs.alloc.Calls.{Gives, at_gives, Gives-goes, Gives-Gives}
use Rattle.core.proofs.ptr.Rows.{El}
use Rattle.std_heap.proofs.GlobalAllocator.deallocate.Met.{met}
use Rattle.std_heap.specs.contracts.GlobalAllocator.deallocate as heap_gives
use Rattle.std_alloc.proofs.Flags.{T_true}
use Rattle.handles.proofs.header_slice.places.Leaving.TheLaws.{lowers}
use Rattle.handles.specs.contracts.header_slice.places.Leaving.free.{ended, clauses}
use Rattle.handles.specs.contracts.header_slice.places.Leaving.free.Key.{name as #self}
use Rattle.handles.proofs.header_slice.places.Leaving.free.Statement.{statement}
use Rattle.handles.proofs.header_slice.places.Leaving.free.Code as code

pub free_spec : {M : Type 1} → statement M
free_spec 𝓤 𝓛 𝓜 𝓡 wired T L =
    let R : RattleType = param 0 T in
    let E : El = record { row = T; laws = L } in let En = ended T in let c = clauses T 𝓛 𝓜.mem 𝓡.returns in
    let self = plain (λ _. LeavingRow R) in let alloc = RefOf (0 ∷ []) tt (plain (λ _. heap.row)) (λ _. tt) in
    let hs : Stays En.signature.params En.kept = (stay_dropped self no, (stay_dropped alloc yes, tt)) in
    walks (at_type T) code.function 𝓛 𝓜 𝓡 En hs c
    (Goes-blank 𝓛 2 self no (λ κs x f. tt), (Goes-dropped 𝓛 2 alloc yes (λ κs x f. refl), tt))
    #self (code.unfolded 𝓤 𝓛.H 𝓜 𝓡 wired (T, tt))
    (λ κs. ((λ s. leaving_val s.first s.taken s.filled s.room ∷ []), (shr_vals, tt)))
    (λ κs. ((lowers R (param_laws 0 T L)).val_is, (shr_Tells (named 0) κs.0 heap.row, tt)))
    (λ κs qs bounds a gh are go ends.
    let me = a.0 in let p : Ptr = me.first in let taken : ℕ = me.taken in let filled : ℕ = me.filled in
    let room : ℕ = me.room in let at_heap : ℕ × ℕ = a.1.0.ref_ptr in let h : Global = a.1.0.now in
    let κ : Lft = κs.0 in let q : Share = qs.0 in
    let taken_fits : taken < 2 ^ 64 = are.0.0.1.1.1.0.1 in let filled_fits : filled < 2 ^ 64 = are.0.0.1.1.1.1.0.1 in
    let room_fits : room < 2 ^ 64 = are.0.0.1.1.1.1.1.0.1 in let s : ℕ = sz E in let τ : Ty = elτ E in
    let al : ℕ = capped (align τ) in let block : Ty = bare (ty_array τ room) in
    let others = ‵ (flft κs.1.0 qs.1.0) ⊛ ‵ ftrue in let y : (walk_of 𝓛 En hs c).Ghost =
    ((κs, qs, bounds, a, (leaving_val p taken filled room ∷ [], (vptr at_heap.0 at_heap.1 ∷ [], tt))), gh)
    in let Post : Val → SProp 𝓤 = (walk_of 𝓛 En hs c).post y in
    let to_end : Sq 𝓛 (‵ (flft κ q) ∷ others ∷ []) (prop (Post vunit)) = join ! $ nothing_more ! $
    feq_i ! (List Val) (vunit ∷ []) (vunit ∷ []) refl $ nothing_more ! $ nothing_more ! $ nothing_more ! $
    fjoin3 ! $ keep ! (3 ∷ 0 ∷ 1 ∷ 2 ∷ []) $ by ! (ends vunit tt (tt, (tt, tt)) (tt, (tt, tt))) in
    qed 𝓛 (((‵ (flft κ q) ⊛ others) ⊛ ‵ (owns (types_at En.signature.params κs) a y.0.4))
    ∷ raw (fact 𝓤 _) ∷ raw (fact 𝓤 (me.items ≡ [])) ∷ []) ∵
    keep ! (2 ∷ 0 ∷ []) $ heard ! (me.items ≡ []) (λ empty.
    split ! $ split ! $ move ! (2 ∷ []) $ fsplit ! $ fsplit ! $ drop ! $ move ! (1 ∷ []) $ fsplit ! $ fsplit ! $
    drop ! $ move ! (2 ∷ 0 ∷ 3 ∷ 4 ∷ []) $
    -- [what the places own; the `&` to the allocator; its token; the other tokens; nothing]
    in_a_block ! p (λ z. leaving_own R z taken filled room me.items)
    (none_at_null R 𝓛 taken filled room me.items) (λ b o at. fsplit3 ! $ flt_l ! (λ fit. move ! (1 ∷ []) $
    fsplit3 ! $ drop ! $ let bytes : room * s < 2 ^ 64 = omega (arith, fit) in
    let all_left : filled ≡ taken = omega (arith, me.within.0, ap length empty) in
    as_written ! (ty_array τ (room - filled)) b (o + filled * s) $ move ! (2 ∷ []) $
    as_written ! (ty_array τ taken) b o $
    use2 𝓛 (‵ (froom (ty_array τ room) b o)) (whole_room E 𝓛 b o taken filled room all_left me.within.1)
    $ as_raw ! (ty_array τ room) b o $
    -- [the room; the right to free; the `&` to the allocator; its token; the other tokens; nothing]
    let back = at_gives heap 𝓛 𝓜.mem 𝓡.returns κ q at_heap h b o (room * s) al block in
    let product = uncapped room s bytes in
    -- the contract of the bound names one lifetime more, that of the type parameter
    let k = Gives heap 𝓛 𝓜.mem 𝓡.returns in
    let gives = λ (x : k.Ghost). spared 𝓛 heap_gives.signature _ (run_framed 𝓤 𝓛.H 𝓜 𝓡 _) 1 ([], tt)
    (heap_gives.spec 𝓛 𝓜.mem 𝓡.returns) (met 𝓤 𝓛 𝓜 𝓡 (code.calls-std_heap::GlobalAllocator::deallocate 𝓡.env wired))
    ((x.0.0, x.0.1, tt, x.0.3, x.0.4), x.1) in
    go.enters (leaving_val p taken filled room ∷ vptr at_heap.0 at_heap.1 ∷ []) refl $
    alloc_all ! (λ l. pass_all ! refl
    (words-Good p (taken ∷ filled ∷ room ∷ []) (taken_fits, (filled_fits, (room_fits, tt))), ((tt, tt), tt)) $
    sets ! (is ! (field_in ! 0 refl refl (whole !)) (ap ptr_val at)) refl (tt, tt) $
    sets ! (field_in ! 3 refl refl (whole !)) refl (tt, record { fits = room_fits }) $
    sets ! (is ! (bin ! (get ! refl) (size_word !)
    (record { fits = subst (λ (z : ℕ). z < 2 ^ 64) (sym product) bytes })) (ap (vint w64) product))
    refl (tt, record { fits = bytes }) $
    sets ! (bin ! (get ! refl) (lit ! tt) tt) refl (tt, tt) $ first ! $ branches ! (get ! refl)
    (λ has_bytes. rewrite ! 1 (λ (z : Bool). ‵ (owns_if z (right_to_free block (block_ptr b o))))
    (T_true _ has_bytes) refl $ blocks ! $ sets ! (of_opd ! (get ! refl)) refl (tt, tt) $ move ! (2 ∷ 3 ∷ []) $ join ! $
    move ! (1 ∷ 2 ∷ 0 ∷ []) $
    use3 𝓛 (raw (k.pre back)) (Gives-goes heap 𝓛 𝓜.mem 𝓡.returns κ q at_heap h (⊑_static κ)
    b o (room * s) al block (ap capped (size-raw (ty_array τ room)) ∙ capped_is (room * s) bytes)
    (ap capped (align-raw (ty_array τ room))) bytes (capped_fits (align τ))) $
    calls_at_last ! (fm 𝓛 𝓜 𝓡) k gives back (and_then ! (get ! refl) (and_then ! (get ! refl)
    (and_then ! (get ! refl) (and_then ! (align_word !) (no_more !))))) (λ v.
    use1 𝓛 (later (given (v ≡ vunit) (‵ (flft κ q))))
    (Gives-Gives heap 𝓛 𝓜.mem 𝓡.returns κ q at_heap h b o (room * s) al block v) $ await ! tt $ learn ! (λ is_unit.
    lands_last ! refl (subst (λ (z : Val). Holds (has_ty ty_unit z) × WT z) (sym is_unit) (tt, tt)) $
    go.ahead l 5 $ sets ! (of_opd ! (unit_lit !)) refl (tt, tt) $
    returns ! (look_at ! 0 refl) $ free_all ! refl $ keep ! (0 ∷ 1 ∷ []) $ to_end)))
    (λ no_bytes. skips ! $ go.ahead l 5 $
    sets ! (of_opd ! (unit_lit !)) refl (tt, tt) $ returns ! (look_at ! 0 refl) $ free_all ! refl $
    keep ! (3 ∷ 4 ∷ []) $ to_end))))))
