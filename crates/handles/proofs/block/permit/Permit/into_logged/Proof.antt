-- `into_logged` keeps of a permit that its step is in the log.
use Rattle.handles.proofs.Walks.{List, [], ◌∷◌, refl, ‵, ◌$◌, !, by, move, keep, drop, fsplit, fjoin, use0, no_more}
use Rattle.handles.proofs.Walks.{returns, alloc_all, pass_all, free_all, look_at, sets, agg, RattleType, Ptr, param}
use Rattle.handles.proofs.Walks.{one_word-Good, by_value, permit_worded, so, also, vstruct, vnil, Entry, BlockId}
use Rattle.handles.proofs.Walks.{NoBytes, no_bytes-made, fact_i}
use Rattle.handles.specs.contracts.block.permit.Permit.into_logged.{clauses}
use Rattle.handles.specs.contracts.block.permit.Permit.into_logged.Key.{name as #self}
use Rattle.handles.proofs.block.permit.Permit.into_logged.Statement.{statement}
use Rattle.handles.proofs.block.permit.Permit.into_logged.Code as code

pub into_logged_spec : {M : Type 1} → statement M
into_logged_spec 𝓤 𝓛 𝓜 𝓡 wired T L =
    let R : RattleType = param 0 T in by_value (permit_worded R) 𝓛 𝓜 𝓡 (clauses T 𝓛 𝓜.mem 𝓡.returns)
    (λ κs a. Unit {0}) (λ κs a gh. fact_i 𝓤 _ _ tt) T #self code.function
    (code.unfolded 𝓤 𝓛.H 𝓜 𝓡 wired (T, tt)) (λ κs qs a gh Post asked ends go.
    let p : Ptr = a.block in let η : BlockId = a.id in let log : List Entry = a.log in
    fsplit ! $ move ! (1 ∷ []) $ drop ! $
    -- [the log; the tokens]
    alloc_all ! (λ l. pass_all ! refl (one_word-Good p, tt) $
    sets ! (agg ! (no_more !)) refl (tt, tt) $ use0 𝓛 (‵ (NoBytes.own_val tt (vstruct vnil ∷ [])))
    (no_bytes-made 𝓛) $ fjoin ! $ returns ! (look_at ! 0 refl) $ free_all ! refl $ keep ! (1 ∷ 0 ∷ []) $
    by ! (ends (vstruct vnil) (record { id = η; log = log }) (also 𝓤 refl (so 𝓤 refl)))))
