-- `held` shows what every handle of the block sees.
use Rattle.handles.proofs.Walks.{ℕ, ◌+◌, List, [], ◌∷◌, refl, Val, vptr, id⊢, Lft, fhide, ‵, ◌$◌, !, by, keep, drop}
use Rattle.handles.proofs.Walks.{fsplit, fjoin, use1, feq_i, stop, fld, addr, of_opd, first, blocks, returns}
use Rattle.handles.proofs.Walks.{alloc_all, pass_all, free_all, look_at, get, through, sets, sets_last, RattleType}
use Rattle.handles.proofs.Walks.{Ptr, block_ptr, param, param_laws, HeldRow, by_ref, so, unhide, hide, held_offset}
use Rattle.handles.proofs.Walks.{shown, marked_shares, stays_shown, fact_i}
use Rattle.handles.specs.contracts.block.marked.Marked as marked_type
use Rattle.handles.specs.contracts.block.marked.Marked.held.{clauses}
use Rattle.handles.specs.contracts.block.marked.Marked.held.Key.{name as #self}
use Rattle.handles.proofs.block.marked.Marked.held.Statement.{statement}
use Rattle.handles.proofs.block.marked.Marked.held.Code as code

pub held_spec : {M : Type 1} → statement M
held_spec 𝓤 𝓛 𝓜 𝓡 wired T L =
    let R : RattleType = param 0 T in by_ref (marked_type.the_row R) tt 𝓛 𝓜 𝓡 (clauses T 𝓛 𝓜.mem 𝓡.returns)
    (λ κs a. Unit {0}) (λ κs a gh. fact_i 𝓤 _ _ tt) T #self code.function
    (code.unfolded 𝓤 𝓛.H 𝓜 𝓡 wired (T, tt)) (λ κs qs a gh Post asked ends go.
    let b : ℕ = a.ref_ptr.0 in let o : ℕ = a.ref_ptr.1 in let p : Ptr = block_ptr b o in
    let x : (HeldRow R).Denot = a.now.held in let κ : Lft = κs.0 in
    alloc_all ! (λ l. pass_all ! refl ((tt, tt), tt) $
    let there : ℕ = o + held_offset R in
    use1 𝓛 (‵ (fhide (marked_shares R p a.now κ))) (id⊢ 𝓤 _) $ unhide ! $
    use1 𝓛 (‵ (shown R p x κ)) (stays_shown R (param_laws 0 T L) p a.now 𝓛 κ) $ fsplit ! $ drop ! $ hide ! $
    -- [what is held; the token; the other tokens]
    sets ! (addr ! (through ! refl (stop !))) refl (tt, tt) $ sets ! (of_opd ! (get ! refl)) refl (tt, tt) $
    first ! $ blocks ! $ sets_last ! (addr ! (through ! refl (fld ! refl (stop !)))) refl (tt, tt) $
    go.ahead l 3 $ sets ! (of_opd ! (get ! refl)) refl (tt, tt) $
    feq_i ! (List Val) (vptr b there ∷ []) (vptr b there ∷ []) refl $ fjoin ! $
    returns ! (look_at ! 0 refl) $ free_all ! refl $ keep ! (1 ∷ 2 ∷ 0 ∷ []) $
    by ! (ends (vptr b there) (record { ref_ptr = (b, there); now = x }) (so 𝓤 refl))))
