-- `held` shows what every handle of the block sees.
use Rattle.handles.proofs.Walks.{HandleRow, field_behind, ℕ, ◌+◌, List, [], ◌∷◌, refl, Val, vptr, id⊢, Lft, fhide, ‵}
use Rattle.handles.proofs.Walks.{◌⊛◌, ◌$◌, !, by, move, keep, drop, split, fsplit, fjoin, fpick, use1, rewrite, feq_i}
use Rattle.handles.proofs.Walks.{stop, fld, addr, of_opd, first, blocks, returns, alloc_all, pass_all, free_all}
use Rattle.handles.proofs.Walks.{look_at, get, through, sets, sets_last, RattleType, Ptr, block_of, offset_of}
use Rattle.handles.proofs.Walks.{at_block, shuts, param, param_laws, HeldRow, one_word, HandleWords, opens_word, so}
use Rattle.handles.proofs.Walks.{◌+ₚ◌, unhide, hide, hidden_shr, lent_at, held_offset, shown, handle_shares, shown_by}
use Rattle.handles.proofs.Walks.{fact_i, by_ref, parted}
use Rattle.handles.specs.contracts.block.handle.Handle.held.{clauses}
use Rattle.handles.specs.contracts.block.handle.Handle.held.Key.{name as #self}
use Rattle.handles.proofs.block.handle.Handle.held.Statement.{statement}
use Rattle.handles.proofs.block.handle.Handle.held.Code as code

pub held_spec : {M : Type 1} → statement M
held_spec 𝓤 𝓛 𝓜 𝓡 wired T L =
    let R : RattleType = param 0 T in let D : RattleType = HandleWords R in
    by_ref (HandleRow R) tt 𝓛 𝓜 𝓡 (clauses T 𝓛 𝓜.mem 𝓡.returns) (λ κs a. Unit {0}) (λ κs a gh. fact_i 𝓤 _ _ tt) T #self
    code.function (code.unfolded 𝓤 𝓛.H 𝓜 𝓡 wired (T, tt)) (λ κs qs a gh Post asked ends go.
    let b : ℕ = a.ref_ptr.0 in let o : ℕ = a.ref_ptr.1 in let h = a.now in let p : Ptr = h.block in
    let x : (HeldRow R).Denot = h.held in let κ : Lft = κs.0 in let pb : ℕ = block_of p in let po : ℕ = offset_of p in
    alloc_all ! (λ l. pass_all ! refl ((tt, tt), tt) $
    use1 𝓛 (‵ (hidden_shr D κ (p, tt) b o) ⊛ ‵ (fhide (handle_shares R p x h.id h.number h.sole κ))) (id⊢ 𝓤 _) $
    split ! $
    move ! (1 ∷ []) $ unhide ! $ fsplit ! $ fpick ! (λ inb. drop ! $ let there : ℕ = po + held_offset R in
    use1 𝓛 (‵ (shown R p x κ)) (shown_by R (param_laws 0 T L) 𝓛 p x h.id h.number h.sole κ) $
    rewrite ! 0 (λ (z : Ptr). ‵ (lent_at (HeldRow R) (z +ₚ held_offset R) x κ)) (at_block p inb) refl $
    fsplit ! $ drop ! $ hide ! $
    -- [what is held; the handle's word; the token; the other tokens]
    move ! (1 ∷ 2 ∷ []) $ opens_word R p ! tt inb b o (λ r.
    sets ! (field_behind ! 0 refl refl refl refl)
    refl (tt, tt) $ shuts ! tt D r (p, tt) (one_word (parted p) ∷ []) b o $
    first ! $ blocks ! $ sets_last ! (addr ! (through ! refl (fld ! refl (stop !)))) refl (tt, tt) $
    go.ahead l 2 $ sets ! (of_opd ! (get ! refl)) refl (tt, tt) $
    -- [the token; what is held; the other tokens]
    move ! (1 ∷ []) $ feq_i ! (List Val) (vptr pb there ∷ []) (vptr pb there ∷ []) refl $ fjoin ! $
    returns ! (look_at ! 0 refl) $ free_all ! refl $ keep ! (1 ∷ 2 ∷ 0 ∷ []) $
    by ! (ends (vptr pb there) (record { ref_ptr = (pb, there); now = x }) (so 𝓤 refl))))))
