-- `of` takes a box apart.
use Rattle.handles.proofs.Walks.{dropped_at, so, its_field, ◌≡◌, [], ◌∷◌, ◌++◌, refl, ap, ◌∙◌, a_type, Val, vptr, id⊢}
use Rattle.handles.proofs.Walks.{ftrue, flft, sem, ‵, raw, ◌⊛◌, some, later, ◌$◌, !, by, move, keep, drop, split}
use Rattle.handles.proofs.Walks.{split3, join, fsplit, fjoin, fpick, pick, use1, await, rewrite, feq_l, of_opd}
use Rattle.handles.proofs.Walks.{no_more, and_then, returns, lands_as, alloc_all, pass_all, free_all, look_at, get}
use Rattle.handles.proofs.Walks.{sets, agg, fact, no, RattleType, plain, Ptr, block_ptr, ptr_val, nothing_more, only}
use Rattle.handles.proofs.Walks.{heard, param, layout, bounded, fm, known, Lft, Share, full_share, use0, never, fst∗}
use Rattle.handles.proofs.Walks.{vstruct, of_list, null_ptr, in_a_block, calls_at, dcons, dnil, ⊑_static, named_in}
use Rattle.handles.proofs.Walks.{Lasts, lasts, triple_of, Global, passed, box_out, box_in, glues, Goes-blank, heap_row}
use Rattle.handles.proofs.Walks.{ghosts, heap, heap_arg, heap_arg-laws, handle_tells, pair_val, raw_box-Good}
use Rattle.handles.proofs.Walks.{raw_box_shuts}
use mir.Raw.{raw as bare}
use denote.Builtin.{RawPtr}
use denote.Struct.Tuple.{Tuple}
use Rattle.std_alloc.specs.contracts.boxed.Box.into_raw_with_allocator as callee
use Rattle.std_alloc.proofs.boxed.Box.into_raw_with_allocator.Met.{met}
use Rattle.handles.proofs.Blocks.RawBoxes.{◌⊑◌}
use Rattle.std_alloc.specs.Box.Ownership.{box_owns}
use Rattle.std_alloc.proofs.BoxSteps.Form as box
use Rattle.std_alloc.specs.contracts.boxed.Box as boxed
use Rattle.handles.specs.contracts.block.raw_box.RawBox.of.{ended, clauses}
use Rattle.handles.specs.contracts.block.raw_box.RawBox.of.Key.{name as #self}
use Rattle.handles.proofs.block.raw_box.RawBox.of.Statement.{statement}
use Rattle.handles.proofs.block.raw_box.RawBox.of.Code as code

pub of_spec : {M : Type 1} → statement M
of_spec {M} 𝓤 𝓛 𝓜 𝓡 wired T L dx glue =
    let R : RattleType = param 0 T in let E : box.Bx = record { row = T; laws = L; al = heap } in
    let Box : RattleType = boxed.the_row R heap_row ghosts in
    dropped_at (bounded (a_type ∷ []) (T, tt) (dcons dx dnil)) code.function 𝓛 𝓜 𝓡 (ended T dx)
    (clauses T dx 𝓛 𝓜.mem 𝓡.returns) (λ κs a. κs.0 ⊑ T.lives) (λ κs a gh. fst∗ 𝓤 (fact 𝓤 _) (sem 𝓛 ftrue))
    (Goes-blank 𝓛 1 (plain (λ _. Box)) no (λ κs x f. tt), tt) #self (code.unfolded 𝓤 𝓛.H 𝓜 𝓡 wired (T, tt) dx)
    (λ κs d vss qs gh Post lives are ends go. let v = d.0 in let a : Global = v.alloc in let x : T.Denot = v.value in
    -- what is called has a lifetime for the allocator too, here `'static`, whose token says nothing
    let κ : Lft = κs.0 in let q : Share = qs.0 in let κκ : Lft × (Lft × Unit {0}) = (κ, ([], tt)) in
    let static = ‵ (flft [] full_share) in let both = ‵ (flft κ q) ⊛ static ⊛ ‵ ftrue in fsplit ! $
    box_out E ! v vss.0 (λ b o h at is_pair good. box_in E ! v b o x at refl $
    let w : Val = box.word E h b o in let typed = raw_box-Good b o h good in
    let allocator = passed 𝓡.env (code.calls-std_heap::GlobalAllocator::allocate 𝓡.env wired)
    (code.calls-std_heap::GlobalAllocator::deallocate 𝓡.env wired)
    (code.calls-std_heap::GlobalAllocator::grow 𝓡.env wired)
    (code.calls-std_heap::GlobalAllocator::shrink 𝓡.env wired) M 𝓤 𝓛 𝓜 𝓡 in
    let glued = glues 𝓡.env (code.calls-handles::Destruct++none::drop 𝓡.env wired)
    heap_arg heap_arg-laws M 𝓤 𝓛 𝓜 𝓡 in let k = triple_of 𝓛 (callee.signature T heap_arg heap.g heap.d heap.drops dx)
    (callee.spec T heap_arg heap.g heap.d heap.drops dx 𝓛 𝓜.mem 𝓡.returns) in
    let y : k.Ghost = ((κκ, (q, (full_share, tt)), tt, (v, tt), (w ∷ [], tt)), tt) in
    let Pair : RattleType = Tuple (RawPtr ∷ heap_row ∷ []) in
    fjoin ! $ move ! (1 ∷ []) $ use1 𝓛 (‵ (flft κ q) ⊛ ‵ ftrue) (id⊢ 𝓤 _) $ split ! $ move ! (1 ∷ []) $
    use0 𝓛 static (𝓛.lfts.lft-nil full_share) $
    join ! $ move ! (1 ∷ 0 ∷ []) $ join ! $ join ! $ nothing_more ! $ known ! ([] ⊑ []) (⊑_static []) $ join ! $
    known ! (κ ⊑ T.lives) lives $ join ! $ move ! (1 ∷ 0 ∷ []) $ join ! $ use1 𝓛 (raw (k.pre y)) (id⊢ 𝓤 _) $
    go.enters (w ∷ []) (λ j. is_pair j ++ []) $ alloc_all ! (λ l. pass_all ! refl (typed, tt) $
    sets ! (of_opd ! (get ! refl)) refl typed $ calls_at ! (fm 𝓛 𝓜 𝓡) k (met 𝓤 𝓛 𝓜 (named_in 𝓤 𝓛.H 𝓜 𝓡 𝓡.env)
    (code.calls-std_alloc::boxed::Box::into_raw_with_allocator 𝓡.env wired)
    T heap_arg L heap_arg-laws heap.g heap.d heap.drops dx allocator glued glue) y (and_then ! (get ! refl)
    (no_more !)) (λ u.
    use1 𝓛 (later (some (λ (r : Ptr × Global). (both ⊛ ‵ (Pair.own_val r (u ∷ [])))
    ⊛ some (λ (ls : Lasts (callee.ended T heap_arg heap.g heap.d heap.drops dx)
    κκ y.0.3). ‵ (lasts (callee.ended T heap_arg heap.g heap.d heap.drops dx) κκ y.0.3 ls)
    ⊛ (raw (fact 𝓤 (r.1 ≡ a)) ⊛ ‵ (box_owns (ghosts.dealloc_token a) R r.0 x)))))) (id⊢ 𝓤 _) $
    await ! tt $ pick ! (λ r. split ! $ move ! (1 ∷ []) $ pick ! (λ _. split3 ! $ drop ! $ heard ! (r.1 ≡ a) (λ same.
    in_a_block ! r.0 (λ p. box_owns (ghosts.dealloc_token a) R p x) (fst∗ 𝓤 (never 𝓤)
    (sem 𝓛 (ghosts.dealloc_token a (bare (layout T)) null_ptr))) (λ b' o' at'.
    -- [the memory; the tokens and the pair]
    move ! (1 ∷ []) $ split ! $ split3 ! $ move ! (1 ∷ []) $ drop ! $ join ! $ move ! (1 ∷ []) $
    fpick ! (λ vss. fsplit ! $ feq_l ! (λ pair_is. fsplit ! $ feq_l ! (λ ptr_is. fsplit ! $
    rewrite ! 0 (λ (s : Global). ‵ (heap_row.own_val s vss.1.0)) same refl $
    handle_tells heap ! a vss.1.0 (λ h' handle_is good'. let made = raw_box-Good b' o' h' good' in
    let pointer : vss.0 ≡ vptr b' o' ∷ [] = ptr_is ∙ ap (λ (p : Ptr). ptr_val p ∷ []) at' in
    lands_as ! (ap only (pair_is ∙ (λ j. vstruct (of_list (pointer j ++ (handle_is j ++ []))) ∷ []))) refl made $
    sets ! (its_field ! refl refl refl) refl (tt, tt) $
    sets ! (its_field ! refl refl refl) refl good' $
    sets ! (agg ! (and_then ! (get ! refl) (and_then ! (get ! refl) (no_more !)))) refl made $
    -- [the allocator; nothing; the tokens; the memory]
    move ! (3 ∷ 0 ∷ []) $ raw_box_shuts R ! b' o' h' a x $
    returns ! (look_at ! 0 refl) $ free_all ! refl $ keep ! (2 ∷ 0 ∷ []) $ by ! (ends (pair_val (vptr b' o') h')
    (record { at = block_ptr b' o'; alloc = a; value = x }) (tt, tt) (so 𝓤 refl))))))))))))))
