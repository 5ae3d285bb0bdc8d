-- `into_shared` forgets that a handle is the only one.
use Rattle.handles.proofs.Walks.{false, [], ◌∷◌, refl, ‵, ◌$◌, !, move, fsplit, fjoin, use1, RattleType, Ptr, param}
use Rattle.handles.proofs.Walks.{param_laws, HeldRow, handle_worded, handle_at, so, also, owned_as, fact_i, forgets}
use Rattle.handles.proofs.Walks.{turns, handle_owns, done, qed, ◌∵◌}
use Rattle.handles.specs.contracts.block.handle.Handle.into_shared.{clauses}
use Rattle.handles.specs.contracts.block.handle.Handle.into_shared.Key.{name as #self}
use Rattle.handles.proofs.block.handle.Handle.into_shared.Statement.{statement}
use Rattle.handles.proofs.block.handle.Handle.into_shared.Code as code

pub into_shared_spec : {M : Type 1} → statement M
into_shared_spec 𝓤 𝓛 𝓜 𝓡 wired T L = let R : RattleType = param 0 T in
    turns (handle_worded R) (handle_worded R) 𝓛 𝓜 𝓡 (clauses T 𝓛 𝓜.mem 𝓡.returns) (λ κs a. Unit {0})
    (λ κs a gh. fact_i 𝓤 _ _ tt) T #self code.function (code.unfolded 𝓤 𝓛.H 𝓜 𝓡 wired (T, tt))
    (λ Post v. refl) (λ a. handle_at R a.block a.held false a.id a.number a.log) (λ a. refl) (λ κs a is.
    let p : Ptr = a.block in let x : (HeldRow R).Denot = a.held in
    qed 𝓛 (‵ (handle_owns R p x a.id a.number a.sole a.log) ∷ []) ∵ fsplit ! $ move ! (1 ∷ []) $
    use1 𝓛 (‵ (owned_as R p x a.id a.number false a.log)) (forgets R (param_laws 0 T L) 𝓛 p x a.id a.number a.sole
    a.log) $
    move ! (1 ∷ 0 ∷ []) $ fjoin ! $ done !)
    (λ κs a gh. also 𝓤 refl (also 𝓤 refl (also 𝓤 refl (so 𝓤 refl))))
