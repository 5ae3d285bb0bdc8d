-- `into_permit` takes the block of a handle that is known to be the only one.
use Rattle.handles.proofs.Walks.{◌≡◌, Bool, true, [], ◌∷◌, refl, ‵, ◌$◌, !, by, rewrite, fact, RattleType, param}
use Rattle.handles.proofs.Walks.{handle_worded, permit_at, so, also, sole_permits, whole_block, handle_owns, snd∗}
use Rattle.handles.proofs.Walks.{turns, permit_worded, qed, ◌∵◌, Fml}
use Rattle.handles.specs.contracts.block.handle.Handle.into_permit.{clauses}
use Rattle.handles.specs.contracts.block.handle.Handle.into_permit.Key.{name as #self}
use Rattle.handles.proofs.block.handle.Handle.into_permit.Statement.{statement}
use Rattle.handles.proofs.block.handle.Handle.into_permit.Code as code

pub into_permit_spec : {M : Type 1} → statement M
into_permit_spec 𝓤 𝓛 𝓜 𝓡 wired T L = let R : RattleType = param 0 T in
    turns (handle_worded R) (permit_worded R) 𝓛 𝓜 𝓡 (clauses T 𝓛 𝓜.mem 𝓡.returns) (λ κs a. a.sole ≡ true)
    (λ κs a gh. snd∗ 𝓤 (fact 𝓤 _) (fact 𝓤 _)) T #self code.function (code.unfolded 𝓤 𝓛.H 𝓜 𝓡 wired (T, tt))
    (λ Post v. refl) (λ a. permit_at R a.block a.held (whole_block 1) a.id a.number a.log) (λ a. refl) (λ κs a is.
    let owns : Bool → Fml = λ z. handle_owns R a.block a.held a.id a.number z a.log in
    qed 𝓛 (‵ (owns a.sole) ∷ []) ∵ rewrite ! 0 (λ z. ‵ (owns z)) is refl $
    by ! (sole_permits 𝓛 R a.block a.held a.id a.number a.log))
    (λ κs a gh. also 𝓤 refl (also 𝓤 refl (also 𝓤 refl (so 𝓤 refl))))
