-- `deref_mut` lends the list.
use Rattle.handles.proofs.Walks.{walks, at_type, ◌≡◌, ℕ, [], ◌∷◌, refl, named, vptr, Lft}
use Rattle.handles.proofs.Walks.{Share, ftrue, flft, sem, ‵, raw, ◌⊛◌, some, later, ◌$◌, ◌∵◌, !, qed, by, move, keep}
use Rattle.handles.proofs.Walks.{drop}
use Rattle.handles.proofs.Walks.{split, split3, join, fsplit, fsplit3, fjoin, pick, use1, use2, await, stop, addr}
use Rattle.handles.proofs.Walks.{of_opd, first, blocks, returns, alloc_all, pass_all, free_all, look_at, get, through}
use Rattle.handles.proofs.Walks.{sets, sets_last, no, RattleType, owns, types_at, plain, nothing_more}
use Rattle.handles.proofs.Walks.{Stays, stay_dropped, walk_of, known, GName, MutRef, MutBor, mut_vals, mut_Tells, opens}
use Rattle.handles.proofs.Walks.{group, Goes-spent_ref}
use denote.Memory.{mem}
use denote.Signature.{mut_ref_to}
use denote.Follow.{follows, lends_Part}
use Rattle.sequence.proofs.Laid.{Self as self_row, ListRow, forth, back}
use Rattle.sequence.specs.contracts.sequence.SequenceDerefMut.deref_mut.{ended, clauses}
use Rattle.sequence.specs.contracts.sequence.SequenceDerefMut.deref_mut.Key.{name as #self}
use Rattle.sequence.proofs.sequence.SequenceDerefMut.deref_mut.Statement.{statement}
use Rattle.sequence.proofs.sequence.SequenceDerefMut.deref_mut.Code as code

pub deref_mut_spec : {M : Type 1} → statement M
deref_mut_spec 𝓤 𝓛 𝓜 𝓡 wired T L =
    let En = ended T in let c = clauses T 𝓛 𝓜.mem 𝓡.returns in
    let Self : RattleType = self_row T L in let C : RattleType = ListRow T L in let row = plain (λ _. Self) in
    let hs : Stays En.signature.params En.kept = (stay_dropped (mut_ref_to (0 ∷ []) tt row) no, tt) in
    walks (at_type T) code.function 𝓛 𝓜 𝓡 En hs c (Goes-spent_ref 𝓛 2 (0 ∷ []) tt row, tt) #self
    (code.unfolded 𝓤 𝓛.H 𝓜 𝓡 wired (T, tt)) (λ κs. (mut_vals, tt)) (λ κs. (mut_Tells (named 0) κs.0 Self, tt))
    (λ κs qs bounds a gh are go ends.
    let b : ℕ = a.0.ref_ptr.0 in let o : ℕ = a.0.ref_ptr.1 in let κ : Lft = κs.0 in let q : Share = qs.0 in
    let μ : Lft = κs.1.0 in let r : Share = qs.1.0 in let me : Self.Denot = a.0.now in
    let γ : GName = a.0.ghost_name in let Lent : RattleType = MutRef (named 0) κ C in
    let y : (walk_of 𝓛 En hs c).Ghost = ((κs, qs, bounds, a, (vptr b o ∷ [], tt)), gh) in
    qed 𝓛 (((‵ (flft κ q) ⊛ ‵ (flft μ r) ⊛ ‵ ftrue) ⊛ ‵ (owns (types_at En.signature.params κs) a y.0.4))
    ∷ raw ((c κs a).requires gh) ∷ []) ∵
    keep ! (0 ∷ []) $ split ! $ split3 ! $ move ! (3 ∷ []) $ fsplit ! $ fsplit3 ! $ drop ! $
    go.enters (vptr b o ∷ []) refl $ alloc_all ! (λ l. pass_all ! refl ((tt, tt), tt) $
    first ! $ blocks ! $ sets ! (addr ! (through ! refl (stop !))) refl (tt, tt) $
    sets ! (of_opd ! (get ! refl)) refl (tt, tt) $ sets_last ! (addr ! (through ! refl (stop !))) refl (tt, tt) $
    go.ahead l 1 $ sets ! (of_opd ! (get ! refl)) refl (tt, tt) $
    -- [the reference's two parts; nothing; its token; the token of T; nothing]
    move ! (0 ∷ 1 ∷ 3 ∷ []) $ opens ! tt Self {h = me} b o (λ vs.
    use2 𝓛 (‵ ((mem C).own_at me b o)) (forth T L 𝓛 b o me vs) $ nothing_more ! $
    -- [nothing; the list; the open borrow; its two names; nothing; the token of T; nothing]
    move ! (2 ∷ 3 ∷ 4 ∷ 1 ∷ 0 ∷ []) $ group ! 5 $ use1 𝓛 (later (some (λ (δ : GName).
    ‵ (Lent.own_val (record { ref_ptr = (b, o); ghost_name = δ; now = me }) (vptr b o ∷ []))
    ⊛ ‵ (flft κ q) ⊛ ‵ (follows Self C γ δ (λ w. w)))))
    (lends_Part 𝓛 Self C (λ w. w) (named 0) κ q b o b o γ (sem 𝓛 ftrue)
    (back T L 𝓛 b o) (Self.coded.code me) (Self.coded.code me) me) $
    await ! tt $ pick ! (λ δ.
    let lent : MutBor C.Denot = record { ref_ptr = (b, o); ghost_name = δ; now = me } in
    -- [the result; the token; what follows; nothing; the token of T; nothing]
    split3 ! $ move ! (4 ∷ 5 ∷ []) $ join ! $ move ! (2 ∷ 0 ∷ []) $ join ! $ known ! (me ≡ me) refl $
    move ! (3 ∷ 0 ∷ []) $ join ! $ nothing_more ! $ nothing_more ! $ fjoin ! $
    returns ! (look_at ! 0 refl) $ free_all ! refl $ keep ! (2 ∷ 0 ∷ 3 ∷ 1 ∷ []) $
    by ! (ends (vptr b o) lent (tt, tt) (tt, tt))))))
