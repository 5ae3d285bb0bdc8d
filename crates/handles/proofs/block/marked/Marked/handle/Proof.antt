-- `handle` makes one more handle of a block that is marked, with no step on its word.
use Rattle.handles.proofs.Walks.{ℕ, false, [], ◌∷◌, refl, id⊢, Lft, flft, fhide, full_share, later, await, ‵, ◌$◌, ! }
use Rattle.handles.proofs.Walks.{by, move, keep, drop, fsplit, fjoin, fpick, use0, use1, stop, addr, of_opd, no_more}
use Rattle.handles.proofs.Walks.{and_then, returns, alloc_all, pass_all, free_all, look_at, get, through, sets, agg}
use Rattle.handles.proofs.Walks.{RattleType, Ptr, block_ptr, param, HeldRow, one_word, by_ref, handle_at, is_handle}
use Rattle.handles.proofs.Walks.{so, also, unhide, a_handle, marked_shares, SharedBlock, block_at, born, fact_i}
use Rattle.handles.proofs.Walks.{BlockId, Names, BornSome, static_entry, newest, join, permit_shown, learns_permit}
use Rattle.handles.proofs.Walks.{under_rule}
use types.Tokens.{shr_bor-open}
use Rattle.handles.proofs.Walks.BorrowedHandle.{lent_halves}
use Rattle.handles.specs.contracts.block.marked.Marked as marked_type
use Rattle.handles.specs.contracts.block.marked.Marked.handle.{clauses}
use Rattle.handles.specs.contracts.block.marked.Marked.handle.Key.{name as #self}
use Rattle.handles.proofs.block.marked.Marked.handle.Statement.{statement}
use Rattle.handles.proofs.block.marked.Marked.handle.Code as code

pub handle_spec : {M : Type 1} → statement M
handle_spec 𝓤 𝓛 𝓜 𝓡 wired T L =
    let R : RattleType = param 0 T in by_ref (marked_type.the_row R) tt 𝓛 𝓜 𝓡 (clauses T 𝓛 𝓜.mem 𝓡.returns)
    (λ κs a. Unit {0}) (λ κs a gh. fact_i 𝓤 _ _ tt) T #self code.function
    (code.unfolded 𝓤 𝓛.H 𝓜 𝓡 wired (T, tt)) (λ κs qs a gh Post asked ends go.
    let b : ℕ = a.ref_ptr.0 in let o : ℕ = a.ref_ptr.1 in let p : Ptr = block_ptr b o in
    let x : (HeldRow R).Denot = a.now.held in let η : BlockId = a.now.known_by.id in let κ : Lft = κs.0 in
    alloc_all ! (λ l. pass_all ! refl ((tt, tt), tt) $
    use1 𝓛 (‵ (fhide (marked_shares R p a.now κ))) (id⊢ 𝓤 _) $ unhide ! $ fsplit ! $ drop ! $ fpick ! (λ t.
    let i : Names = t.names in let n : ℕ = t.number in
    let s : SharedBlock = block_at R p x η n i in
    fsplit ! $ move ! (1 ∷ []) $ fsplit ! $ drop ! $ fsplit ! $ move ! (1 ∷ []) $ fsplit ! $
    -- [the rule; the sharing; what is lent; the mark; the token; the other tokens]
    use0 𝓛 (‵ (flft [] full_share)) (𝓛.lfts.lft-nil full_share) $ move ! (3 ∷ 0 ∷ []) $
    shr_bor-open ! tt (lent_halves 𝓛 i η n) (λ e.
    -- [the open borrow; the share; the rule; the sharing; the mark; the token; the other tokens]
    drop ! $ move ! (3 ∷ 0 ∷ []) $ fjoin ! $ under_rule ! (later (‵ (BornSome 𝓛 s e))) (born 𝓛 s e) $ await ! tt $
    fpick ! (λ w. fpick ! (λ log. fsplit ! $ drop ! $
    move ! (1 ∷ 2 ∷ []) $ join ! $ move ! (1 ∷ 0 ∷ []) $ learns_permit R p x η n ! tt i (newest log) a_handle [] log
    (static_entry s) w (permit_shown 𝓛 R p x η n tt i [] (static_entry s) w a_handle log tt) (λ added. fsplit ! $
    drop ! $
    sets ! (addr ! (through ! refl (stop !))) refl (tt, tt) $ sets ! (of_opd ! (get ! refl)) refl (tt, tt) $
    sets ! (agg ! (and_then ! (get ! refl) (no_more !))) refl (tt, (tt, tt)) $ is_handle R p x η
    (newest log) ! false log $
    returns ! (look_at ! 0 refl) $ free_all ! refl $ keep ! (1 ∷ 2 ∷ 0 ∷ []) $
    by ! (ends (one_word p) (handle_at R p x false η (newest log) log)
    (also 𝓤 refl (also 𝓤 refl (so 𝓤 refl)))))))))))
