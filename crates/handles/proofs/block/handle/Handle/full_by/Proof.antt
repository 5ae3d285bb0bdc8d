-- `full_by` keeps of a log that its last step found the limit. The handle stays as it is.
use Rattle.handles.proofs.Walks.{snd∗, so, List, [], ◌∷◌, refl, vstruct, vnil, ent, emp, ftrue, sem, ‵, ◌$◌, !, by}
use Rattle.handles.proofs.Walks.{move, keep, fsplit, fjoin, fpack, rewrite, use0, no_more, returns, alloc_all}
use Rattle.handles.proofs.Walks.{pass_all, free_all, look_at, sets, agg, fact, yes, RattleType, plain, nothing_more}
use Rattle.handles.proofs.Walks.{param, Goes-dropped, HeldRow, HandleRow, LoggedRow, no_bytes_told, Entry, BlockId}
use Rattle.handles.proofs.Walks.{by_ref_and}
use seplogic.Ra.Ura.{Ura}
use types.Logic.{Logic}
use denote.Shadow.{makes_shadow}
use denote.Struct.Owning.{shape}
use denote.Struct.Struct.{Struct}
use Rattle.handles.specs.Attempts.{IsFullOf}
use Rattle.handles.specs.Founds.{FoundFull}
use Rattle.handles.specs.Inside.Blocks.{reached}
use Rattle.handles.specs.contracts.arc.full.Full as full_type
use Rattle.handles.specs.contracts.block.handle.Handle.full_by.{clauses}
use Rattle.handles.specs.contracts.block.handle.Handle.full_by.Key.{name as #self}
use Rattle.handles.proofs.block.handle.Handle.full_by.Statement.{statement}
use Rattle.handles.proofs.block.handle.Handle.full_by.Code as code

abbrev NoBytes : RattleType
NoBytes = Struct (shape full_type.the_type)

no_bytes : {M : Type 1} {𝓤 : Ura M} (𝓛 : Logic 𝓤) → ent 𝓤 (emp 𝓤) (sem 𝓛 (NoBytes.own_val tt (vstruct vnil ∷ [])))
no_bytes 𝓛 = makes_shadow 𝓛 (NoBytes.own_val tt (vstruct vnil ∷ [])) (λ vss. (tt, tt)) (tt, (refl, tt))

pub full_by_spec : {M : Type 1} → statement M
full_by_spec 𝓤 𝓛 𝓜 𝓡 wired T L =
    let R : RattleType = param 0 T in
    by_ref_and (HandleRow R) tt {m = 1} (plain (λ _. LoggedRow) ∷ []) (yes, tt) 𝓛 𝓜 𝓡 (clauses T 𝓛 𝓜.mem 𝓡.returns)
    (λ κs a bs. IsFullOf a.now bs.0) (λ κs a gh. snd∗ 𝓤 (fact 𝓤 _) (fact 𝓤 _))
    (Goes-dropped 𝓛 2 (plain (λ _. LoggedRow)) yes (λ κs x f. refl), tt) (λ κs. ((λ s. vstruct vnil ∷ []), tt))
    (λ κs. ((λ s vs so. no_bytes_told vs so.0), tt)) T #self code.function (code.unfolded 𝓤 𝓛.H 𝓜 𝓡 wired (T, tt))
    (λ κs qs a bs gh Post is are ends go. let x : (HeldRow R).Denot = a.now.held in
    let η : BlockId = a.now.id in let log : List Entry = bs.0.log in
    move ! (3 ∷ []) $ fsplit ! $ fsplit ! $ move ! (1 ∷ []) $
    rewrite ! 0 (λ (z : BlockId). ‵ (reached z log)) is.0 refl $
    -- [the log; the token; the other tokens]
    keep ! (0 ∷ 4 ∷ 5 ∷ []) $
    alloc_all ! (λ l. pass_all ! refl ((tt, tt), ((tt, tt), tt)) $
    nothing_more ! $ fpack ! (FoundFull x.limit.count log) (λ _. ftrue) is.1 $ move ! (1 ∷ 0 ∷ []) $ fjoin ! $
    use0 𝓛 (‵ (NoBytes.own_val tt (vstruct vnil ∷ []))) (no_bytes 𝓛) $ fjoin ! $
    sets ! (agg ! (no_more !)) refl (tt, tt) $ returns ! (look_at ! 0 refl) $ free_all ! refl $
    keep ! (1 ∷ 2 ∷ 0 ∷ []) $
    by ! (ends (vstruct vnil) (record { limit = x.limit.count; id = η; log = log }) (tt, tt)
    (so 𝓤 (refl, refl, refl)))))
