-- `deref` shows the map.
use Rattle.handles.proofs.Walks.{so, ℕ, List, [], ◌∷◌, refl, named, vptr, Val, id⊢, Lft, ‵, raw, ◌⊛◌, ◌$◌, !, by}
use Rattle.handles.proofs.Walks.{move, keep, split, join, fsplit, fjoin, use1, feq_i, stop, addr, of_opd, first}
use Rattle.handles.proofs.Walks.{blocks, returns, alloc_all, pass_all, free_all, look_at, get, through, sets, sets_last}
use Rattle.handles.proofs.Walks.{RattleType, param, fact_i, hidden_shr, yes, flft, shr_vals, shr_Tells, Goes-dropped}
use Rattle.handles.proofs.Walks.AtType.{dropped}
use Rattle.handles.proofs.Walks.OneParam.{a_ref}
use contract.Lifetimes.{toks}
use Rattle.maps.proofs.Laid.{Self as self_row, MapRow, at_entry}
use Rattle.maps.specs.contracts.map.TreeMapDeref.deref.{ended, clauses}
use Rattle.maps.specs.contracts.map.TreeMapDeref.deref.Key.{name as #self}
use Rattle.maps.proofs.map.TreeMapDeref.deref.Statement.{statement}
use Rattle.maps.proofs.map.TreeMapDeref.deref.Code as code

pub deref_spec : {M : Type 1} → statement M
deref_spec 𝓤 𝓛 𝓜 𝓡 wired X Y LX LY g₀ d₀ g₁ d₁ g₂ d₂ g₃ d₃ m₀ m₁ m₂ m₃ =
    let K : RattleType = param 0 X in let V : RattleType = param 1 Y in
    let Self : RattleType = self_row K V g₀ g₂ g₃ in
    dropped (at_entry X Y d₀ d₁ d₂ d₃) code.function 𝓛 𝓜 𝓡 (ended X Y g₀ d₀ g₁ d₁ g₂ d₂ g₃ d₃)
    (clauses X Y g₀ d₀ g₁ d₁ g₂ d₂ g₃ d₃ 𝓛 𝓜.mem 𝓡.returns) (λ κs a. Unit {0})
    (λ κs a gh. fact_i 𝓤 _ _ tt) (Goes-dropped 𝓛 3 (a_ref Self tt) yes (λ κs x f. refl), tt) #self
    (code.unfolded 𝓤 𝓛.H 𝓜 𝓡 wired (X, (Y, tt)) d₀ d₁ d₂ d₃) (λ κs. (shr_vals, tt))
    (λ κs. (shr_Tells (named 0) κs.0 Self, tt)) (λ κs a qs gh Post asked are ends go.
    let b : ℕ = a.0.ref_ptr.0 in let o : ℕ = a.0.ref_ptr.1 in let d = a.0.now in let κ : Lft = κs.0 in
    fsplit ! $ fsplit ! $ move ! (3 ∷ []) $ use1 𝓛 (‵ (flft κ qs.0) ⊛ raw (toks 𝓛 2 κs.1 qs.1)) (id⊢ 𝓤 _) $
    -- [the map; the token; the other tokens; nothing]
    split ! $ keep ! (3 ∷ 0 ∷ 1 ∷ 4 ∷ []) $
    alloc_all ! (λ l. pass_all ! refl ((tt, tt), tt) $
    use1 𝓛 (‵ (hidden_shr (MapRow K V g₀ g₂ g₃) κ d b o)) (id⊢ 𝓤 _) $
    first ! $ blocks ! $ sets ! (addr ! (through ! refl (stop !))) refl (tt, tt) $
    sets ! (of_opd ! (get ! refl)) refl (tt, tt) $ sets_last ! (addr ! (through ! refl (stop !))) refl (tt, tt) $
    go.ahead l 1 $ sets ! (of_opd ! (get ! refl)) refl (tt, tt) $
    feq_i ! (List Val) (vptr b o ∷ []) (vptr b o ∷ []) refl $ fjoin ! $
    returns ! (look_at ! 0 refl) $ free_all ! refl $ keep ! (1 ∷ 2 ∷ 0 ∷ []) $ join ! $
    by ! (ends (vptr b o) (record { ref_ptr = (b, o); now = d }) (tt, tt) (so 𝓤 refl))))
