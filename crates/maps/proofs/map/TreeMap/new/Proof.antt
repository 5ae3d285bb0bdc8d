-- `new` makes a map with no entries.
use Rattle.handles.proofs.Walks.{dropped_at, so, [], ◌∷◌, refl, ‵, ◌$◌, !, by, keep, use0, lit<, lit, no_more}
use Rattle.handles.proofs.Walks.{and_then, returns, alloc_all, pass_all, free_all, look_at, get, sets, agg, RattleType}
use Rattle.handles.proofs.Walks.{param, fact_i}
use Rattle.maps.proofs.Laid.{at_entry, no_items_good, empty, empty_good, empty_owned}
use Rattle.maps.specs.contracts.map.TreeMap.{the_row}
use Rattle.maps.specs.contracts.map.TreeMap.new.{ended, clauses}
use Rattle.maps.specs.contracts.map.TreeMap.new.Key.{name as #self}
use Rattle.maps.proofs.map.TreeMap.new.Statement.{statement}
use Rattle.maps.proofs.map.TreeMap.new.Code as code

pub new_spec : {M : Type 1} → statement M
new_spec 𝓤 𝓛 𝓜 𝓡 wired X Y LX LY g₀ d₀ g₁ d₁ g₂ d₂ g₃ d₃ m₀ m₁ m₂ m₃ =
    let K : RattleType = param 0 X in let V : RattleType = param 1 Y in
    dropped_at (at_entry X Y d₀ d₁ d₂ d₃) code.function 𝓛 𝓜 𝓡 (ended X Y g₀ d₀ g₁ d₁ g₂ d₂ g₃ d₃)
    (clauses X Y g₀ d₀ g₁ d₁ g₂ d₂ g₃ d₃ 𝓛 𝓜.mem 𝓡.returns) (λ κs a. Unit {0})
    (λ κs a gh. fact_i 𝓤 _ _ tt) tt #self
    (code.unfolded 𝓤 𝓛.H 𝓜 𝓡 wired (X, (Y, tt)) d₀ d₁ d₂ d₃) (λ κs a vss qs gh Post asked are ends go.
    go.enters [] refl $ alloc_all ! (λ l. pass_all ! refl tt $
    sets ! (agg ! (and_then ! (lit ! tt) (no_more !))) refl (tt, (record { fits = lit< tt }, tt)) $
    sets ! (agg ! (and_then ! (get ! refl) (and_then ! (lit ! tt) (no_more !)))) refl no_items_good $
    sets ! (agg ! (and_then ! (get ! refl) (no_more !))) refl (empty_good K V g₀ g₂ g₃) $
    use0 𝓛 (‵ ((the_row K V g₀ g₂ g₃).own_val [] (empty ∷ []))) (empty_owned K V g₀ g₂ g₃ 𝓛) $
    returns ! (look_at ! 0 refl) $ free_all ! refl $ keep ! (2 ∷ 0 ∷ []) $
    by ! (ends empty [] tt (so 𝓤 refl))))
