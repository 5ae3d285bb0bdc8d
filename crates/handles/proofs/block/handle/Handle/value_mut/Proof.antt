-- `value_mut` lends the value of the block of a handle that is known to be the only one.
use Rattle.handles.proofs.Walks.{field_behind, ◌≡◌, ℕ, ◌+◌, Bool, true, List, [], ◌∷◌, refl, ap, ◌∙◌, named, Val, vptr}
use Rattle.handles.proofs.Walks.{full_share, Lft, Share, ftrue, flft, sem, ‵, raw, ◌⊛◌, some, later, ◌$◌, ◌∵◌, !, qed}
use Rattle.handles.proofs.Walks.{by, move, keep, drop, split, split3, join, fsplit, fsplit3, fjoin, fpick, pick, use1}
use Rattle.handles.proofs.Walks.{await, rewrite, stop, fld, addr, of_opd, first, blocks, returns, alloc_all, pass_all}
use Rattle.handles.proofs.Walks.{free_all, look_at, get, through, sets, sets_last, fact, no, RattleType, owns}
use Rattle.handles.proofs.Walks.{types_at, plain, Ptr, block_ptr, block_of, offset_of, at_block, nothing_more, peeks}
use Rattle.handles.proofs.Walks.{heard, Is, shows, cell_at, param, Stays, stay_dropped, walk_of, HeldRow, one_word}
use Rattle.handles.proofs.Walks.{words_are, HandleRow, HandleWords, known, GName, MutRef, MutBor, mut_vals, mut_Tells}
use Rattle.handles.proofs.Walks.{opens, group, Goes-spent_ref, held_offset, handle_owns, unshared_block, at_type}
use Rattle.handles.proofs.Walks.{walks, BlockId}
use denote.Signature.{mut_ref_to}
use denote.Follow.{follows, lends_Part}
use Rattle.handles.specs.Inside.BlockWriteBack.{with_value}
use Rattle.handles.proofs.Blocks.HeldParts.{value_offset, Apart, held_out, Rest, value_back}
use Rattle.handles.specs.contracts.block.handle.Handle as handle_type
use Rattle.handles.specs.contracts.block.handle.Handle.value_mut.{ended, clauses}
use Rattle.handles.specs.contracts.block.handle.Handle.value_mut.Key.{name as #self}
use Rattle.handles.proofs.block.handle.Handle.value_mut.Statement.{statement}
use Rattle.handles.proofs.block.handle.Handle.value_mut.Code as code

pub value_mut_spec : {M : Type 1} → statement M
value_mut_spec 𝓤 𝓛 𝓜 𝓡 wired T L =
    let R : RattleType = param 0 T in let En = ended T in let c = clauses T 𝓛 𝓜.mem 𝓡.returns in
    let Self : RattleType = HandleRow R in let D : RattleType = HandleWords R in let row = plain (λ _. Self) in
    let hs : Stays En.signature.params En.kept = (stay_dropped (mut_ref_to (0 ∷ []) tt row) no, tt) in
    walks (at_type T) code.function 𝓛 𝓜 𝓡 En hs c (Goes-spent_ref 𝓛 2 (0 ∷ []) tt row, tt) #self
    (code.unfolded 𝓤 𝓛.H 𝓜 𝓡 wired (T, tt)) (λ κs. (mut_vals, tt)) (λ κs. (mut_Tells (named 0) κs.0 Self, tt))
    (λ κs qs bounds a gh are go ends.
    let b : ℕ = a.0.ref_ptr.0 in let o : ℕ = a.0.ref_ptr.1 in let κ : Lft = κs.0 in let q : Share = qs.0 in
    let μ : Lft = κs.1.0 in let r : Share = qs.1.0 in let me : Self.Denot = a.0.now in let p : Ptr = me.block in
    let x : (HeldRow R).Denot = me.held in let η : BlockId = me.id in
    let n : ℕ = me.number in let γ : GName = a.0.ghost_name in
    let Lent : RattleType = MutRef (named 0) κ R in let held_at : ℕ = offset_of p + held_offset R in
    let there : ℕ = held_at + value_offset T in let pb : ℕ = block_of p in let po : ℕ = offset_of p in
    let y : (walk_of 𝓛 En hs c).Ghost = ((κs, qs, bounds, a, (vptr b o ∷ [], tt)), gh) in
    qed 𝓛 (((‵ (flft κ q) ⊛ ‵ (flft μ r) ⊛ ‵ ftrue) ⊛ ‵ (owns (types_at En.signature.params κs)
    a y.0.4)) ∷ raw (fact 𝓤 _) ∷ raw (fact 𝓤 (me.sole ≡ true)) ∷ []) ∵
    keep ! (2 ∷ 0 ∷ []) $ heard ! (me.sole ≡ true) (λ sole. split ! $ split3 ! $ move ! (3 ∷ []) $
    fsplit ! $ fsplit3 ! $ drop ! $
    go.enters (vptr b o ∷ []) refl $ alloc_all ! (λ l. pass_all ! refl ((tt, tt), tt) $
    -- [the reference's two parts; nothing; its token; the token of T; nothing]
    move ! (0 ∷ 1 ∷ 3 ∷ []) $ opens ! tt Self {h = me} b o (λ vs. move ! (1 ∷ []) $ fsplit ! $
    peeks ! D (Is D) (shows 𝓛 D) (p, tt) vs (λ is_so. let ev : vs ≡ one_word p
    ∷ [] = words_are (handle_type.the_type R).name (R ∷ []) p vs is_so in drop ! $
    rewrite ! 0 (λ (z : Bool). ‵ (handle_owns R p x η n z me.log)) sole refl $ fsplit ! $ fpick ! (λ inb. drop ! $
    let at : p ≡ block_ptr pb po = at_block p inb in
    rewrite ! 1 (λ (ws : List Val). ‵ (cell_at full_share Self.mir ws b o))
    (ev ∙ ap (λ (z : Ptr). one_word z ∷ []) at) refl $
    sets ! (field_behind ! 1 refl refl refl refl)
    refl (tt, tt) $
    fsplit ! $ rewrite ! 0 (λ (z : Ptr). ‵ (unshared_block R z x η 1 me.log)) at refl $ fsplit3 ! $ move ! (1
    ∷ []) $ fsplit ! $
    use1 𝓛 (‵ (Apart T x pb held_at)) (held_out T L 𝓛 x pb held_at) $ fsplit ! $
    -- [the value; the limit and what is left; what frees; the word; the stamp; the pass; the cell; the open borrow; its
    -- two names; nothing; the token of T; nothing]
    first ! $ blocks ! $ sets_last ! (addr ! (through ! refl (fld ! refl (fld ! refl (stop !))))) refl (tt, tt) $
    go.ahead l 2 $ sets ! (of_opd ! (get ! refl)) refl (tt, tt) $
    move ! (4 ∷ 6 ∷ []) $ fjoin ! $ move ! (5 ∷ 0 ∷ []) $ fjoin ! $ move ! (4 ∷ 0 ∷ []) $ fjoin ! $
    move ! (3 ∷ 0 ∷ []) $ fjoin ! $
    -- [what is beside what is held; the value; the limit and what is left; the open borrow; its two names]
    move ! (2 ∷ 0 ∷ []) $ fjoin ! $ move ! (2 ∷ 3 ∷ 4 ∷ 1 ∷ 0 ∷ []) $ group ! 5 $ use1 𝓛 (later (some (λ (δ : GName).
    ‵ (Lent.own_val (record { ref_ptr = (pb, there); ghost_name = δ; now = x.value }) (vptr pb there ∷ []))
    ⊛ ‵ (flft κ q) ⊛ ‵ (follows Self R γ δ (with_value me)))))
    (lends_Part 𝓛 Self R (with_value me) (named 0) κ q b o pb there γ (sem 𝓛 (Rest T p x.limit η n me.log b o))
    (value_back T L 𝓛 p x.limit η n me.log b o inb) (Self.coded.code me) (Self.coded.code me) x.value) $
    await ! tt $ pick ! (λ δ.
    let lent : MutBor R.Denot = record { ref_ptr = (pb, there); ghost_name = δ; now = x.value } in
    -- [the result; the token; what follows; nothing; the token of T; nothing]
    split3 ! $ move ! (4 ∷ 5 ∷ []) $ join ! $ move ! (2 ∷ 0 ∷ []) $ join ! $ known ! (x.value ≡ x.value) refl $
    move ! (3 ∷ 0 ∷ []) $ join ! $ nothing_more ! $ nothing_more ! $ fjoin ! $
    returns ! (look_at ! 0 refl) $ free_all ! refl $ keep ! (2 ∷ 0 ∷ 3 ∷ 1 ∷ []) $
    by ! (ends (vptr pb there) lent (tt, tt) (tt, tt)))))))))
