-- `new` makes a list with no items.
use Rattle.handles.proofs.Walks.{dropped_at, at_type, so, [], ◌∷◌, refl, ‵, ◌$◌, !, by, keep, use0, lit<, lit}
use Rattle.handles.proofs.Walks.{no_more, and_then}
use Rattle.handles.proofs.Walks.{returns, alloc_all, pass_all, free_all, look_at, get, sets, agg, RattleType, param}
use Rattle.handles.proofs.Walks.{fact_i}
use Rattle.sequence.proofs.Laid.{empty, empty_good, empty_owned}
use Rattle.sequence.specs.contracts.sequence.Sequence.{the_row}
use Rattle.sequence.specs.contracts.sequence.Sequence.new.{ended, clauses}
use Rattle.sequence.specs.contracts.sequence.Sequence.new.Key.{name as #self}
use Rattle.sequence.proofs.sequence.Sequence.new.Statement.{statement}
use Rattle.sequence.proofs.sequence.Sequence.new.Code as code

pub new_spec : {M : Type 1} → statement M
new_spec 𝓤 𝓛 𝓜 𝓡 wired T L =
    let R : RattleType = param 0 T in
    dropped_at (at_type T) code.function 𝓛 𝓜 𝓡 (ended T) (clauses T 𝓛 𝓜.mem 𝓡.returns) (λ κs a. Unit {0})
    (λ κs a gh. fact_i 𝓤 _ _ tt) tt #self
    (code.unfolded 𝓤 𝓛.H 𝓜 𝓡 wired (T, tt)) (λ κs a vss qs gh Post asked are ends go.
    go.enters [] refl $ alloc_all ! (λ l. pass_all ! refl tt $
    sets ! (agg ! (and_then ! (lit ! tt) (no_more !))) refl (tt, (record { fits = lit< tt }, tt)) $
    sets ! (agg ! (and_then ! (get ! refl) (and_then ! (lit ! tt) (no_more !)))) refl (empty_good R) $
    use0 𝓛 (‵ ((the_row R).own_val [] (empty ∷ []))) (empty_owned R 𝓛) $
    returns ! (look_at ! 0 refl) $ free_all ! refl $ keep ! (2 ∷ 0 ∷ []) $
    by ! (ends empty [] tt (so 𝓤 refl))))
