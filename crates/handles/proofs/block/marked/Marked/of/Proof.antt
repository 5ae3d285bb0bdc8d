-- `of` gives a new block that is marked away for good.
use Rattle.handles.proofs.Walks.{dropped_at, both, rewrite, so, its_field, ◌≡◌, ℕ, List, [], ◌∷◌, ◌++◌, refl, Val}
use Rattle.handles.proofs.Walks.{vptr, id⊢, Lft, Share, fsep, flft, later, await, ‵, ◌⊛◌, ◌$◌, !, by, move, keep}
use Rattle.handles.proofs.Walks.{split, join, fsplit, fjoin, fpick, use1, use2, feq_i, stop, addr, of_opd, first}
use Rattle.handles.proofs.Walks.{blocks, returns, alloc_all, pass_all, free_all, look_at, get, through, sets}
use Rattle.handles.proofs.Walks.{sets_last, no, RattleType, plain, Ptr, block_ptr, param, param_laws, HeldRow, hide}
use Rattle.handles.proofs.Walks.{marked_word, Goes-blank, pair_val, RawBoxRow, raw_box-Good, raw_box_opens, bare_block}
use Rattle.handles.proofs.Walks.{BlockId, Lasts_new, staying, new_lasts, box_opens, at_type}
use base.Fml.{fex, ftrue}
use Rattle.handles.specs.Inside.Marked.{born_static}
use contract.BorrowLft.{◌⊑◌}
use Rattle.handles.specs.contracts.block.Block as block_type
use Rattle.handles.specs.contracts.block.marked.Marked.of.{ended, clauses}
use Rattle.handles.specs.contracts.block.marked.Marked.of.Key.{name as #self}
use Rattle.handles.proofs.block.marked.Marked.of.Statement.{statement}
use Rattle.handles.proofs.block.marked.Marked.of.Code as code

pub of_spec : {M : Type 1} → statement M
of_spec 𝓤 𝓛 𝓜 𝓡 wired T L =
    let R : RattleType = param 0 T in let L' = param_laws 0 T L in let Block : RattleType = block_type.the_row R in
    dropped_at (at_type T) code.function 𝓛 𝓜 𝓡 (ended T) (clauses T 𝓛 𝓜.mem 𝓡.returns)
    (λ κs a. (κs.1.0 ⊑ T.lives) × (a.0.value.word ≡ marked_word 1)) (λ κs a gh. both 𝓤 (id⊢ 𝓤 _))
    (Goes-blank 𝓛 2 (plain (λ _. RawBoxRow Block)) no (λ κs x f. tt), tt) #self
    (code.unfolded 𝓤 𝓛.H 𝓜 𝓡 wired (T, tt)) (λ κs z vss qs gh Post is are ends go. let d = z.0 in
    let κ : Lft = κs.1.0 in let q : Share = qs.1.0 in let a : Lft = κs.0 in let x : (HeldRow R).Denot = d.value.held in
    fsplit ! $ raw_box_opens Block ! d vss.0 (λ b o h placed is_pair good. let p : Ptr = block_ptr b o in
    -- [the box; its allocator; nothing; the tokens]
    use1 𝓛 (‵ (bare_block R p x d.value.word)) (box_opens T L 𝓛 b o d.value.word d.value.stamp x d.value.alloc) $
    keep ! (0 ∷ 3 ∷ []) $ rewrite ! 0 (λ (w : ℕ). ‵ (bare_block R p x w)) is.1 refl $
    move ! (1 ∷ []) $ use1 𝓛 (‵ (flft a qs.0) ⊛ ‵ (fsep (flft κ q) ftrue)) (id⊢ 𝓤 _) $ split ! $ move ! (1 ∷ []) $
    fsplit ! $ move ! (3 ∷ 0 ∷ []) $
    use2 𝓛 (later (‵ (fex BlockId (Lasts_new R L' p x 𝓛 a)) ⊛ ‵ (flft κ q))) (new_lasts R L' p x 𝓛 κ q is.0 a) $
    go.enters (pair_val (vptr b o) h ∷ []) (λ j. is_pair j ++ []) $
    alloc_all ! (λ l. pass_all ! refl (raw_box-Good b o h good, tt) $ await ! tt $ split ! $
    fpick ! (λ η.
    let stays = staying R L' p x η born_static in
    -- [what lasts; its token; no more; the other token]
    move ! (1 ∷ 2 ∷ []) $ fjoin ! $ move ! (2 ∷ 0 ∷ []) $ join ! $ move ! (1 ∷ []) $
    sets ! (its_field ! refl refl refl) refl (tt, tt) $
    first ! $ blocks ! $ sets ! (of_opd ! (get ! refl)) refl (tt, tt) $
    sets_last ! (addr ! (through ! refl (stop !))) refl (tt, tt) $
    go.ahead l 2 $ sets ! (of_opd ! (get ! refl)) refl (tt, tt) $
    hide ! $ feq_i ! (List Val) (vptr b o ∷ []) (vptr b o ∷ []) refl $ fjoin ! $
    returns ! (look_at ! 0 refl) $ free_all ! refl $ keep ! (1 ∷ 0 ∷ []) $
    by ! (ends (vptr b o) (record { ref_ptr = (b, o); now = stays }) (tt, tt) (so 𝓤 (refl, refl)))))))
