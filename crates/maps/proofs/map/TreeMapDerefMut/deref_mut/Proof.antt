-- `deref_mut` lends the map.
use Rattle.handles.proofs.Walks.{walks, ◌≡◌, ℕ, [], ◌∷◌, refl, named, vptr, Lft, Share, ftrue, flft, sem, ‵, raw, ◌⊛◌}
use Rattle.handles.proofs.Walks.{some, later, ◌$◌, ◌∵◌, !, qed, by, move, keep, drop, split, split3, join, fsplit}
use Rattle.handles.proofs.Walks.{fsplit3, fjoin, pick, use1, use2, await, stop, addr, of_opd, first, blocks, returns}
use Rattle.handles.proofs.Walks.{alloc_all, pass_all, free_all, look_at, get, through, sets, sets_last, no, RattleType}
use Rattle.handles.proofs.Walks.{param, owns, types_at, plain, nothing_more, Stays, stay_dropped, walk_of, known}
use Rattle.handles.proofs.Walks.{GName, MutRef, MutBor, mut_vals, mut_Tells, opens, group, Goes-spent_ref}
use denote.Memory.{mem}
use denote.Param.Laws.{param_laws}
use denote.Signature.{mut_ref_to}
use denote.Follow.{follows, lends_Part}
use Rattle.maps.proofs.Laid.{Self as self_row, MapRow, at_entry, forth, back}
use Rattle.maps.specs.contracts.map.TreeMapDerefMut.deref_mut.{ended, clauses}
use Rattle.maps.specs.contracts.map.TreeMapDerefMut.deref_mut.Key.{name as #self}
use Rattle.maps.proofs.map.TreeMapDerefMut.deref_mut.Statement.{statement}
use Rattle.maps.proofs.map.TreeMapDerefMut.deref_mut.Code as code

pub deref_mut_spec : {M : Type 1} → statement M
deref_mut_spec 𝓤 𝓛 𝓜 𝓡 wired X Y LX LY g₀ d₀ g₁ d₁ g₂ d₂ g₃ d₃ m₀ m₁ m₂ m₃ =
    let K : RattleType = param 0 X in let V : RattleType = param 1 Y in
    let LK = param_laws 0 X LX in let LV = param_laws 1 Y LY in
    let En = ended X Y g₀ d₀ g₁ d₁ g₂ d₂ g₃ d₃ in
    let c = clauses X Y g₀ d₀ g₁ d₁ g₂ d₂ g₃ d₃ 𝓛 𝓜.mem 𝓡.returns in
    let Self : RattleType = self_row K V g₀ g₂ g₃ in let C : RattleType = MapRow K V g₀ g₂ g₃ in
    let row = plain (λ _. Self) in
    let hs : Stays En.signature.params En.kept = (stay_dropped (mut_ref_to (0 ∷ []) tt row) no, tt) in
    walks (at_entry X Y d₀ d₁ d₂ d₃) code.function 𝓛 𝓜 𝓡 En hs c (Goes-spent_ref 𝓛 3 (0 ∷ []) tt row, tt) #self
    (code.unfolded 𝓤 𝓛.H 𝓜 𝓡 wired (X, (Y, tt)) d₀ d₁ d₂ d₃) (λ κs. (mut_vals, tt))
    (λ κs. (mut_Tells (named 0) κs.0 Self, tt))
    (λ κs qs bounds a gh are go ends.
    let b : ℕ = a.0.ref_ptr.0 in let o : ℕ = a.0.ref_ptr.1 in let κ : Lft = κs.0 in let q : Share = qs.0 in
    let μ : Lft = κs.1.0 in let r : Share = qs.1.0 in let ν : Lft = κs.1.1.0 in let s : Share = qs.1.1.0 in
    let me : Self.Denot = a.0.now in
    let γ : GName = a.0.ghost_name in let Lent : RattleType = MutRef (named 0) κ C in
    let y : (walk_of 𝓛 En hs c).Ghost = ((κs, qs, bounds, a, (vptr b o ∷ [], tt)), gh) in
    qed 𝓛 (((‵ (flft κ q) ⊛ ‵ (flft μ r) ⊛ (‵ (flft ν s) ⊛ ‵ ftrue))
    ⊛ ‵ (owns (types_at En.signature.params κs) a y.0.4)) ∷ raw ((c κs a).requires gh) ∷ []) ∵
    keep ! (0 ∷ []) $ split ! $ split3 ! $ move ! (3 ∷ []) $ fsplit ! $ fsplit3 ! $ drop ! $
    go.enters (vptr b o ∷ []) refl $ alloc_all ! (λ l. pass_all ! refl ((tt, tt), tt) $
    first ! $ blocks ! $ sets ! (addr ! (through ! refl (stop !))) refl (tt, tt) $
    sets ! (of_opd ! (get ! refl)) refl (tt, tt) $ sets_last ! (addr ! (through ! refl (stop !))) refl (tt, tt) $
    go.ahead l 1 $ sets ! (of_opd ! (get ! refl)) refl (tt, tt) $
    -- [the reference's two parts; nothing; its token; the tokens of K and V]
    move ! (0 ∷ 1 ∷ 3 ∷ []) $ opens ! tt Self {h = me} b o (λ vs.
    use2 𝓛 (‵ ((mem C).own_at me b o)) (forth K V g₀ g₂ g₃ LK LV 𝓛 b o me vs) $ nothing_more ! $
    -- [nothing; the map; the open borrow; its two names; nothing; the tokens of K and V]
    move ! (2 ∷ 3 ∷ 4 ∷ 1 ∷ 0 ∷ []) $ group ! 5 $ use1 𝓛 (later (some (λ (δ : GName).
    ‵ (Lent.own_val (record { ref_ptr = (b, o); ghost_name = δ; now = me }) (vptr b o ∷ []))
    ⊛ ‵ (flft κ q) ⊛ ‵ (follows Self C γ δ (λ w. w)))))
    (lends_Part 𝓛 Self C (λ w. w) (named 0) κ q b o b o γ (sem 𝓛 ftrue)
    (back K V g₀ g₂ g₃ LK LV 𝓛 b o) (Self.coded.code me) (Self.coded.code me) me) $
    await ! tt $ pick ! (λ δ.
    let lent : MutBor C.Denot = record { ref_ptr = (b, o); ghost_name = δ; now = me } in
    -- [the result; the token; what follows; nothing; the tokens of K and V]
    split3 ! $ move ! (4 ∷ 5 ∷ []) $ join ! $ move ! (2 ∷ 0 ∷ []) $ join ! $ known ! (me ≡ me) refl $
    move ! (3 ∷ 0 ∷ []) $ join ! $ nothing_more ! $ nothing_more ! $ fjoin ! $
    returns ! (look_at ! 0 refl) $ free_all ! refl $ keep ! (2 ∷ 0 ∷ 3 ∷ 1 ∷ []) $
    by ! (ends (vptr b o) lent (tt, tt) (tt, tt))))))
