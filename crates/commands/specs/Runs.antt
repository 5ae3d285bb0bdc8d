-- Runs of commands on a state: on the slots of a table, or on anything else.
use Rattle.std.specs.Prelude.{◌≡◌, ◌⊎◌, List, [], ◌∷◌}
use Rattle.commands.specs.declared.Reply.{Reply}

-- what a command means: its outcomes, each a reply and the state that it leaves, by the state that it finds
abbrev pub Means : Type 0 → Type 0
Means X = X → List (Reply × X)

-- this reply, and this state, are one of the outcomes
abbrev pub IsAmong : {X : Type 0} → List (Reply × X) → Reply → X → Type 0
IsAmong [] reply new = ⊥
IsAmong (outcome ∷ outcomes) reply new = ((reply ≡ outcome.0) × (new ≡ outcome.1)) ⊎ IsAmong outcomes reply new

-- commands, one after another, get these replies and turn the old state into the new
abbrev pub Run : {C X : Type 0} → (C → Means X) → List C → X → List Reply → X → Type 0
Run meaning [] old [] new = new ≡ old
Run {C} {X} meaning (command ∷ commands) old (reply ∷ replies) new =
    (mid : X) × IsAmong (meaning command old) reply mid × Run meaning commands mid replies new
Run meaning [] old (reply ∷ replies) new = ⊥
Run meaning (command ∷ commands) old [] new = ⊥
