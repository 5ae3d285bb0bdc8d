-- `deref` shows the list.
use Rattle.handles.proofs.Walks.{by_ref, so, ℕ, List, [], ◌∷◌, refl, Val, vptr, id⊢, Lft, ‵, ◌$◌, !, by, keep, fjoin}
use Rattle.handles.proofs.Walks.{use1, feq_i}
use Rattle.handles.proofs.Walks.{stop, addr, of_opd, first, blocks, returns, alloc_all, pass_all, free_all, look_at}
use Rattle.handles.proofs.Walks.{get}
use Rattle.handles.proofs.Walks.{through, sets, sets_last, RattleType, param, fact_i, hidden_shr}
use Rattle.sequence.specs.Laid.Owned.{list_row}
use Rattle.sequence.specs.contracts.sequence.Sequence.{the_row}
use Rattle.sequence.specs.contracts.sequence.SequenceDeref.deref.{clauses}
use Rattle.sequence.specs.contracts.sequence.SequenceDeref.deref.Key.{name as #self}
use Rattle.sequence.proofs.sequence.SequenceDeref.deref.Statement.{statement}
use Rattle.sequence.proofs.sequence.SequenceDeref.deref.Code as code

pub deref_spec : {M : Type 1} → statement M
deref_spec 𝓤 𝓛 𝓜 𝓡 wired T L =
    let R : RattleType = param 0 T in
    by_ref (the_row R) tt 𝓛 𝓜 𝓡 (clauses T 𝓛 𝓜.mem 𝓡.returns) (λ κs a. Unit {0}) (λ κs a gh. fact_i 𝓤 _ _ tt) T #self
    code.function (code.unfolded 𝓤 𝓛.H 𝓜 𝓡 wired (T, tt)) (λ κs qs a gh Post asked ends go.
    let b : ℕ = a.ref_ptr.0 in let o : ℕ = a.ref_ptr.1 in let d = a.now in let κ : Lft = κs.0 in
    alloc_all ! (λ l. pass_all ! refl ((tt, tt), tt) $
    use1 𝓛 (‵ (hidden_shr (list_row R) κ d b o)) (id⊢ 𝓤 _) $
    first ! $ blocks ! $ sets ! (addr ! (through ! refl (stop !))) refl (tt, tt) $
    sets ! (of_opd ! (get ! refl)) refl (tt, tt) $ sets_last ! (addr ! (through ! refl (stop !))) refl (tt, tt) $
    go.ahead l 1 $ sets ! (of_opd ! (get ! refl)) refl (tt, tt) $
    -- [the list; the token; the other tokens]
    feq_i ! (List Val) (vptr b o ∷ []) (vptr b o ∷ []) refl $ fjoin ! $
    returns ! (look_at ! 0 refl) $ free_all ! refl $ keep ! (1 ∷ 2 ∷ 0 ∷ []) $
    by ! (ends (vptr b o) (record { ref_ptr = (b, o); now = d }) (so 𝓤 refl))))
