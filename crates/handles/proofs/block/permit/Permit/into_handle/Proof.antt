-- `into_handle` makes the handle that the permit has the right to.
use Rattle.handles.proofs.Walks.{drop, ◌≡◌, false, [], ◌∷◌, refl, ‵, ◌$◌, !, fsplit, rewrite, fact, RattleType, param}
use Rattle.handles.proofs.Walks.{Right, permit_owns, permit_worded, handle_at, so, also, a_handle, snd∗, turns}
use Rattle.handles.proofs.Walks.{handle_worded, done, qed, ◌∵◌, Fml}
use Rattle.handles.specs.contracts.block.permit.Permit.into_handle.{clauses}
use Rattle.handles.specs.contracts.block.permit.Permit.into_handle.Key.{name as #self}
use Rattle.handles.proofs.block.permit.Permit.into_handle.Statement.{statement}
use Rattle.handles.proofs.block.permit.Permit.into_handle.Code as code

pub into_handle_spec : {M : Type 1} → statement M
into_handle_spec 𝓤 𝓛 𝓜 𝓡 wired T L = let R : RattleType = param 0 T in
    turns (permit_worded R) (handle_worded R) 𝓛 𝓜 𝓡 (clauses T 𝓛 𝓜.mem 𝓡.returns) (λ κs a. a.right ≡ a_handle)
    (λ κs a gh. snd∗ 𝓤 (fact 𝓤 _) (fact 𝓤 _)) T #self code.function (code.unfolded 𝓤 𝓛.H 𝓜 𝓡 wired (T, tt))
    (λ Post v. refl) (λ a. handle_at R a.block a.held false a.id a.number []) (λ a. refl) (λ κs a is.
    let owns : Right → Fml = λ r. permit_owns R a.block a.held a.id a.number r a.log in
    qed 𝓛 (‵ (owns a.right) ∷ []) ∵ rewrite ! 0 (λ r. ‵ (owns r)) is refl $ fsplit ! $ drop ! $ done !)
    (λ κs a gh. also 𝓤 refl (also 𝓤 refl (also 𝓤 refl (so 𝓤 refl))))
