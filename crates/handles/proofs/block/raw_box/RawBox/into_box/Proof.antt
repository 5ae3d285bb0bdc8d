-- `into_box` makes the box again.
use Rattle.handles.proofs.Walks.{◌≡◌, List, [], ◌∷◌, ◌++◌, refl, sym, ap, subst, a_type, Val, vptr, id⊢, ftrue, flft}
use Rattle.handles.proofs.Walks.{‵, raw, ◌⊛◌, some, later, ◌$◌, ◌∵◌, !, qed, by, move, keep, drop, split, split3}
use Rattle.handles.proofs.Walks.{join, fsplit, fjoin, pick, use1, await, rewrite, feq_i, stop, fld, of_opd, no_more}
use Rattle.handles.proofs.Walks.{and_then, first, blocks, returns, alloc_all, pass_all, free_all, look_at, get}
use Rattle.handles.proofs.Walks.{get_in, sets, lands_last, sub, whole, fact, no, RattleType, owns, types_at, plain}
use Rattle.handles.proofs.Walks.{block_ptr, nothing_more, only, param, layout, bounded, Stays, stay_dropped, fm, Lft}
use Rattle.handles.proofs.Walks.{Share, full_share, use0, known, calls_at_last, Good, dcons, dnil, ⊑_static, named_in}
use Rattle.handles.proofs.Walks.{Lasts, lasts, triple_of, Global, passed, box_out, box_in, glues, Goes-blank}
use Rattle.handles.proofs.Walks.{heap_row, ghosts, heap, heap_arg, heap_arg-laws, pair_val, RawBoxRow, raw_box-Good}
use Rattle.handles.proofs.Walks.{raw_box_opens, walks_at}
use Rattle.std_alloc.specs.contracts.boxed.Box.from_raw as callee
use Rattle.std_alloc.proofs.boxed.Box.from_raw.Met.{met}
use Rattle.handles.proofs.Blocks.RawBoxes.{◌⊑◌}
use Rattle.std_alloc.proofs.BoxSteps.Form as box
use Rattle.std_alloc.specs.contracts.boxed.Box as boxed
use Rattle.handles.specs.contracts.block.raw_box.RawBox.into_box.{ended, clauses}
use Rattle.handles.specs.contracts.block.raw_box.RawBox.into_box.Key.{name as #self}
use Rattle.handles.proofs.block.raw_box.RawBox.into_box.Statement.{statement}
use Rattle.handles.proofs.block.raw_box.RawBox.into_box.Code as code

pub into_box_spec : {M : Type 1} → statement M
into_box_spec {M} 𝓤 𝓛 𝓜 𝓡 wired T L dx glue =
    let R : RattleType = param 0 T in
    let En = ended T dx in let c = clauses T dx 𝓛 𝓜.mem 𝓡.returns in
    let E : box.Bx = record { row = T; laws = L; al = heap } in
    let Box : RattleType = boxed.the_row R heap_row ghosts in let RawBox : RattleType = RawBoxRow R in
    let given_self = plain (λ _. RawBox) in
    let hs : Stays En.signature.params En.kept = (stay_dropped given_self no, tt) in
    walks_at (bounded (a_type ∷ []) (T, tt) (dcons dx dnil)) code.function 𝓛 𝓜 𝓡 En hs c
    (Goes-blank 𝓛 1 given_self no (λ κs x f. tt), tt) #self (code.unfolded 𝓤 𝓛.H 𝓜 𝓡 wired (T, tt) dx)
    (λ z are go ends.
    let κ : Lft = z.0.0.0 in let q : Share = z.0.1.0 in let κκ : Lft × (Lft × Unit {0}) = (κ, ([], tt)) in
    let v = z.0.3.0 in let a : Global = v.alloc in let x : T.Denot = v.value in
    -- what is called has a lifetime for the allocator too, here `'static`, whose token says nothing
    let static = ‵ (flft [] full_share) in let toks = ‵ (flft κ q) ⊛ ‵ ftrue in
    let both = ‵ (flft κ q) ⊛ static ⊛ ‵ ftrue in let asked = raw ((c z.0.0 z.0.3).requires z.1) in
    qed 𝓛 ((toks ⊛ ‵ (owns (types_at En.signature.params z.0.0) z.0.3 z.0.4)) ∷ asked ∷ []) ∵ split ! $
    move ! (1 ∷ []) $ fsplit ! $
    raw_box_opens R ! v z.0.4.0 (λ b o h at is_pair good. let w : Val = pair_val (vptr b o) h in
    let typed = raw_box-Good b o h good in
    let allocator = passed 𝓡.env (code.calls-std_heap::GlobalAllocator::allocate 𝓡.env wired)
    (code.calls-std_heap::GlobalAllocator::deallocate 𝓡.env wired)
    (code.calls-std_heap::GlobalAllocator::grow 𝓡.env wired)
    (code.calls-std_heap::GlobalAllocator::shrink 𝓡.env wired) M 𝓤 𝓛 𝓜 𝓡 in
    let glued = glues 𝓡.env (code.calls-handles::Destruct++none::drop 𝓡.env wired)
    heap_arg heap_arg-laws M 𝓤 𝓛 𝓜 𝓡 in let k = triple_of 𝓛 (callee.signature T heap_arg heap.g heap.d heap.drops)
    (callee.spec T heap_arg heap.g heap.d heap.drops 𝓛 𝓜.mem 𝓡.returns) in
    let y : k.Ghost = ((κκ, (q, (full_share, tt)), tt, (a, (block_ptr b o, tt)), (h ∷ [], (vptr b o ∷ [], tt))), x) in
    -- [the memory; the allocator; nothing; the tokens; what is asked]
    move ! (4 ∷ []) $ use1 𝓛 (raw (fact 𝓤 (κ ⊑ T.lives)) ⊛ ‵ ftrue) (id⊢ 𝓤 _) $ split ! $
    move ! (1 ∷ []) $ drop ! $ move ! (1 ∷ []) $ known ! ([] ⊑ []) (⊑_static []) $ join ! $
    move ! (1 ∷ 0 ∷ []) $ join ! $ move ! (2 ∷ []) $ feq_i ! (List Val) (vptr b o ∷ []) (vptr b o ∷ []) refl $ fjoin ! $
    move ! (2 ∷ 0 ∷ []) $ fjoin ! $ move ! (2 ∷ 0 ∷ []) $ split ! $ move ! (1 ∷ []) $
    use0 𝓛 static (𝓛.lfts.lft-nil full_share) $ join ! $ move ! (1 ∷ 0 ∷ []) $ join ! $ join ! $
    join ! $ use1 𝓛 (raw (k.pre y)) (id⊢ 𝓤 _) $
    go.enters (w ∷ []) (λ j. is_pair j ++ []) $ alloc_all ! (λ l. pass_all ! refl (typed, tt) $
    sets ! (of_opd ! (get_in ! (fld ! refl (stop !)) (sub ! 0 refl (whole !)))) refl (tt, tt) $
    sets ! (of_opd ! (get_in ! (fld ! refl (stop !)) (sub ! 1 refl (whole !)))) refl good $ first ! $ blocks ! $
    calls_at_last ! (fm 𝓛 𝓜 𝓡) k (met 𝓤 𝓛 𝓜 (named_in 𝓤 𝓛.H 𝓜 𝓡 𝓡.env)
    (code.calls-std_alloc::boxed::Box::from_raw 𝓡.env wired)
    T heap_arg L heap_arg-laws heap.g heap.d heap.drops allocator glued) y (and_then ! (get ! refl)
    (and_then ! (get ! refl) (no_more !))) (λ u.
    use1 𝓛 (later (some (λ (r : Box.Denot). (both ⊛ ‵ (Box.own_val r (u ∷ [])))
    ⊛ some (λ (ls : Lasts (callee.ended T heap_arg heap.g heap.d heap.drops)
    κκ y.0.3). ‵ (lasts (callee.ended T heap_arg heap.g heap.d heap.drops) κκ y.0.3 ls)
    ⊛ (raw (fact 𝓤 (r.value ≡ x)) ⊛ raw (fact 𝓤 (r.alloc ≡ a))))))) (id⊢ 𝓤 (k.post y u)) $
    await ! tt $ pick ! (λ r. split ! $ move ! (1 ∷ []) $ pick ! (λ _. split3 ! $ drop ! $ move ! (2 ∷ []) $
    split ! $ split3 ! $ move ! (1 ∷ []) $ drop ! $ join ! $ move ! (1 ∷ []) $
    -- the box says how it is stored
    box_out E ! r (u ∷ []) (λ b' o' h' at' pair_is good'. box_in E ! r b' o' r.value at' refl $
    rewrite ! 0 (λ (ws : List Val). ‵ (Box.own_val r ws)) (sym pair_is) refl $
    let made : Good (layout Box) u = subst (Good (layout Box)) (sym (ap only pair_is)) (raw_box-Good b' o' h' good') in
    lands_last ! refl made $ go.ahead l 3 $
    sets ! (of_opd ! (get ! refl)) refl made $ nothing_more ! $ nothing_more ! $ fjoin ! $
    returns ! (look_at ! 0 refl) $ free_all ! refl $ keep ! (2 ∷ 0 ∷ 1 ∷ 3 ∷ []) $
    by ! (ends u r (tt, tt) (tt, tt)))))))))
