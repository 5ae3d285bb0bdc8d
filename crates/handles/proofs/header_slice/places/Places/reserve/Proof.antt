-- `reserve` asks the allocator for an array, and makes places of it that hold nothing yet.
use Rattle.handles.proofs.Places.{◌≡◌, ℕ, ◌^◌, ◌<◌, Bool, true, false, [], ◌∷◌, refl, sym, ap, subst, lit<, arith, w64}
use Rattle.handles.proofs.Places.{named, Val, vint, vptr, inst_fn, SProp, ent, sep, Lft, Share, Fml, ftrue, fsep, flft}
use Rattle.handles.proofs.Places.{sem, ‵, raw, ◌⊛◌, later, ◌$◌, ◌∵◌, !, qed, by, move, keep, drop, split, join, fsplit}
use Rattle.handles.proofs.Places.{fjoin, use1, use2, await, rewrite, stop, fld, lit, of_opd, no_more, and_then, first}
use Rattle.handles.proofs.Places.{exec, returns, lands_as, alloc_all, pass_all, free_all, look_at, get, get_in, sets}
use Rattle.handles.proofs.Places.{sets_last, is, env, agg, whole, tables, fact, yes, RattleType, owns, types_at, plain}
use Rattle.handles.proofs.Places.{block_ptr, nothing_more, heard, Is, param, layout, RefOf, shr_vals, shr_Tells, Stays}
use Rattle.handles.proofs.Places.{stay_dropped, walk_of, Goes-dropped, after, fm, heap, spared, run_framed, ⊑_static}
use Rattle.handles.proofs.Places.{Global, Answer-typed, Answered, Takes, Takes-gives, Takes-goes, answers, at_takes}
use Rattle.handles.proofs.Places.{token, arm_body, head, block_align, block_size, block_ty, uncapped, PlacesRow}
use Rattle.handles.proofs.Places.{places_val, has_bytes, places_made, without_items, ◌*◌, ◌≢◌, type_size, Err, IfOk, Ok}
use Rattle.handles.proofs.Places.{FitsInBlock, as_written, Good, first_Good, err_of, ok_of, owns_if, ◌⊑◌, usize}
use Rattle.handles.proofs.Places.{uint_Tells, uint_vals, owned, Struct, Struct-Makes, calls_at, ty_array, vcons, vnil}
use Rattle.handles.proofs.Places.{vstruct, capped_fits, align, capped, Wp, after_seq, at_return, get_tag, After, any_q}
use Rattle.handles.proofs.Places.{in_variant, live, vrt, align_word, bin, size_word, switches_on, at_type, walks}
use Rattle.handles.proofs.Places.{words-Good, known}
use denote.Struct.Declared as Declared
use Rattle.core.specs.contracts.result.Result as result
use Rattle.core.specs.contracts.alloc.AllocError as refusal
use Rattle.core.proofs.mem.Param.{El}
use Rattle.std_heap.proofs.GlobalAllocator.allocate.Met.{met}
use Rattle.std_heap.specs.contracts.GlobalAllocator.allocate as heap_takes
use Rattle.handles.specs.contracts.header_slice.places.Places.reserve.{ended, clauses}
use Rattle.handles.specs.contracts.header_slice.places.Places.reserve.Key.{name as #self}
use Rattle.handles.proofs.header_slice.places.Places.reserve.Statement.{statement}
use Rattle.handles.proofs.header_slice.places.Places.reserve.Code as code

pub reserve_spec : {M : Type 1} → statement M
reserve_spec 𝓤 𝓛 𝓜 𝓡 wired T L =
    let R : RattleType = param 0 T in let En = ended T in let c = clauses T 𝓛 𝓜.mem 𝓡.returns in
    let E : El = record { row = T; laws = L } in
    let P : RattleType = PlacesRow R in let Out : RattleType = result.the_row P refusal.the_row in
    let handle = RefOf (0 ∷ []) tt (plain (λ _. heap.row)) (λ _. tt) in let number = plain (λ _. usize) in
    let hs : Stays En.signature.params En.kept = (stay_dropped handle yes, (stay_dropped number yes, tt)) in
    walks (at_type T) code.function 𝓛 𝓜 𝓡 En hs c
    (Goes-dropped 𝓛 2 handle yes (λ κs x f. refl), (Goes-dropped 𝓛 2 number yes (λ κs x f. refl), tt))
    #self (code.unfolded 𝓤 𝓛.H 𝓜 𝓡 wired (T, tt))
    (λ κs. (shr_vals, (uint_vals w64, tt))) (λ κs. (shr_Tells (named 0) κs.0 heap.row, (uint_Tells w64, tt)))
    (λ κs qs bounds a gh are go leave.
    let hp : ℕ × ℕ = a.0.ref_ptr in let alloc : Global = a.0.now in let room : ℕ = a.1.0 in
    let κ : Lft = κs.0 in let q : Share = qs.0 in let others : Fml = fsep (flft κs.1.0 qs.1.0) ftrue in
    let y : (walk_of 𝓛 En hs c).Ghost = ((κs, qs, bounds, a, (vptr hp.0 hp.1 ∷ [], (vint w64 room ∷ [], tt))), gh) in
    let Post : Val → SProp 𝓤 = (walk_of 𝓛 En hs c).post y in
    let s : ℕ = type_size R in let bytes : ℕ = room * s in let al : ℕ = capped (align (layout T)) in
    let small : room < 2 ^ 64 = are.1.0.1 in
    qed 𝓛 (((‵ (flft κ q) ⊛ ‵ others) ⊛ ‵ (owns (types_at En.signature.params κs) a y.0.4))
    ∷ (raw (fact 𝓤 (κs.1.0 ⊑ T.lives)) ⊛ raw (fact 𝓤 (FitsInBlock R room)) ⊛ raw (fact 𝓤 (bytes ≢ 0))) ∷ []) ∵
    move ! (1 ∷ []) $ split ! $ drop ! $ split ! $ heard ! (FitsInBlock R room) (λ asked. heard ! (bytes ≢ 0) (λ some.
    split ! $ split ! $ move ! (2 ∷ []) $ fsplit ! $ fsplit ! $ keep ! (1 ∷ 3 ∷ 4 ∷ []) $
    let Said : Out.Denot → Type 0 = λ r. IfOk r (λ p. (p.items ≡ []) × (p.room ≡ room)) in
    let ends : (r : Out.Denot) (v : Val) → Said r → ent 𝓤 (sep 𝓤 (sem 𝓛 (Out.own_val r (v ∷ [])))
    (sep 𝓤 (sem 𝓛 (flft κ q)) (sem 𝓛 others))) (Post v)
    = λ r v said. qed 𝓛 (‵ (Out.own_val r (v ∷ [])) ∷ ‵ (flft κ q) ∷ ‵ others ∷ []) ∵
    known ! (Said r) said $ nothing_more ! $ nothing_more ! $ fjoin ! $ nothing_more ! $ fjoin ! $
    move ! (3 ∷ 4 ∷ []) $ join ! $ move ! (0 ∷ 1 ∷ 3 ∷ 2 ∷ []) $
    by ! (leave v r (tt, (tt, tt)) (tt, (tt, tt))) in
    let fits : bytes < 2 ^ 63 = asked.0 in let word : bytes < 2 ^ 64 = omega arith in
    let H = 𝓛.H in let 𝓣 = tables 𝓤 H 𝓜 𝓡 𝓡.env in let fn = inst_fn (at_type T) code.function in
    go.enters (vptr hp.0 hp.1 ∷ vint w64 room ∷ []) refl $
    alloc_all ! (λ l. pass_all ! refl ((tt, tt), ((tt, record { fits = small }), tt)) $ let Ev = env fn.locals l in
    let k = Takes heap 𝓛 𝓜.mem 𝓡.returns in
    let z : k.Ghost = at_takes heap 𝓛 𝓜.mem 𝓡.returns κ q hp alloc bytes al (block_ty E room) in
    -- the contract of the bound names one lifetime more, that of the type parameter
    let takes = λ (x : k.Ghost). spared 𝓛 heap_takes.signature _ (run_framed 𝓤 H 𝓜 𝓡 _) 1 ([], tt)
    (heap_takes.spec 𝓛 𝓜.mem 𝓡.returns) (met 𝓤 𝓛 𝓜 𝓡 (code.calls-std_heap::GlobalAllocator::allocate 𝓡.env wired))
    ((x.0.0, x.0.1, tt, x.0.3, x.0.4), x.1) in
    let Then : After 𝓤 H = any_q (after_seq 𝓤 H (Wp 𝓤 H 𝓣.C 𝓣.Λ Ev (after 3 fn.body)
    (at_return 𝓤 H Ev Post)) (at_return 𝓤 H Ev Post)) in sets ! (is ! (bin ! (get ! refl) (size_word !)
    (record { fits = subst (λ m. m < 2 ^ 64) (sym (uncapped room s word)) word })
    ) (ap (vint w64) (uncapped room s word))) refl (tt, record { fits = word }) $
    use2 𝓛 (raw (k.pre z)) (Takes-goes heap 𝓛 𝓜.mem 𝓡.returns κ q hp alloc (⊑_static κ)
    bytes al (block_ty E room) (block_size E room word) (block_align E room)
    word (capped_fits (align (layout T)))) $
    calls_at ! (fm 𝓛 𝓜 𝓡) k takes z (and_then ! (get ! refl) (and_then ! (get ! refl)
    (and_then ! (align_word !) (no_more !)))) (λ u.
    use1 𝓛 (later (raw (Answered heap 𝓛 𝓜.mem 𝓡.returns alloc (block_ty E room) u) ⊛ ‵ (flft κ q)))
    (Takes-gives heap 𝓛 𝓜.mem 𝓡.returns κ q hp alloc bytes al (block_ty E room) u) $ await ! tt $ split ! $
    answers heap ! 𝓜.mem 𝓡.returns alloc (block_ty E room) u
    (λ b o e. let v : Val = places_val (block_ptr b o) 0 room in
    let made : P.Denot = without_items R (block_ptr b o) room in
    let right : Fml = token heap alloc (block_ty E room) (block_ptr b o) in
    let typed : Good (layout P) v = words-Good (block_ptr b o) (0 ∷ room ∷ []) (lit< tt, (small, tt)) in
    let ok = first_Good (layout P) v typed in lands_as ! e refl (Answer-typed true b o) $ first ! $
    switches_on ! (get_tag ! (vrt ! refl (fld ! refl (stop !))) (whole !)) $
    exec ! 𝓣.C 𝓣.Λ Ev (arm_body 0 (head (after 2 fn.body))) Then $
    sets ! (of_opd ! (get_in ! (vrt ! refl (fld ! refl (stop !))) (in_variant ! 0 0 refl refl (whole !))))
    refl (tt, tt) $ sets ! (of_opd ! (get ! refl)) refl (tt, tt) $
    sets ! (agg ! (and_then ! (get ! refl) (and_then ! (lit ! tt) (and_then ! (get ! refl) (no_more !)))))
    refl typed $ sets_last ! (agg ! (and_then ! (lit ! tt) (and_then ! (get ! refl) (no_more !)))) refl ok $
    go.ahead l 3 $ sets ! (of_opd ! (get ! refl)) refl ok $
    -- [the room; the right to free it; the token; the other tokens]
    as_written ! (ty_array (layout T) room) b o $
    rewrite ! 1 (λ (x : Bool). ‵ (owns_if x right)) (has_bytes bytes some) refl $ places_made R ! b o room small fits $
    use1 𝓛 (‵ (Out.own_val (Ok made) (live 0 (vcons v vnil) ∷ []))) (ok_of 𝓛 P refusal.the_row made v) $
    returns ! (look_at ! 0 refl) $ free_all ! refl $ keep ! (0 ∷ 1 ∷ 2 ∷ []) $
    by ! (ends (Ok made) (live 0 (vcons v vnil)) (refl, refl)))
    (λ e. let none : Val = live 1 (vcons (vstruct vnil) vnil) in
    let Refusal : RattleType = Struct (Declared.shape refusal.the_type) in
    lands_as ! e refl (Answer-typed false 0 0) $ first ! $
    switches_on ! (get_tag ! (vrt ! refl (fld ! refl (stop !))) (whole !)) $
    exec ! 𝓣.C 𝓣.Λ Ev (arm_body 1 (head (after 2 fn.body))) Then $
    sets ! (of_opd ! (get_in ! (vrt ! refl (fld ! refl (stop !))) (in_variant ! 1 0 refl refl (whole !))))
    refl (tt, tt) $ sets_last ! (agg ! (and_then ! (lit ! tt) (and_then ! (get ! refl) (no_more !))))
    refl (tt, (record { fits = lit< tt }, (tt, tt))) $ go.ahead l 3 $
    sets ! (of_opd ! (get ! refl)) refl (tt, (record { fits = lit< tt }, (tt, tt))) $
    owned ! Refusal (Is Refusal) (Struct-Makes 𝓛 (Declared.shape refusal.the_type) tt) tt (vstruct vnil ∷ [])
    (tt, (refl, tt)) $ use1 𝓛 (‵ (Out.own_val (Err (record {})) (none ∷ []))) (err_of 𝓛 P refusal.the_row (record {})
    (vstruct vnil)) $ returns ! (look_at ! 0 refl) $ free_all ! refl $ keep ! (0 ∷ 1 ∷ 2 ∷ []) $
    by ! (ends (Err (record {})) none tt)))))))
