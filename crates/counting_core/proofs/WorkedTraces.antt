-- A trace with its log, computed by the definitions, to read them by. No contract uses it.
use Rattle.counting_core.proofs.Names.{◌≡◌, ℕ, List, [], ◌∷◌, refl, greatest_count, Step, Clone, Raise, Drop, Lower}
use Rattle.counting_core.proofs.Names.{Mark, Lend, Return, Answer, Born, Pending, Ended, Marked, Done, Trace, Open}
use Rattle.counting_core.proofs.Names.{Then, expected, then_all, log_of, made, reads, raises_from, reads_for_drop}
use Rattle.counting_core.proofs.Names.{marks, lowers}

-- the answers to steps in order, unless memory is refused
abbrev answers : Trace ℕ → List (Step ℕ) → List (Answer ℕ)
answers t [] = []
answers t (s ∷ steps) = expected t s ∷ answers (Then t s (expected t s)) steps

-- owner 1 clones a handle that it was lent, and is dropping its own when owner 0 marks the block
abbrev steps : List (Step ℕ)
steps = Lend 0 0 1 ∷ Clone 1 0 ∷ Raise 1 ∷ Return 1 0 ∷ Drop 1 1 ∷ Mark 0 0 ∷ Lower 1 ∷ []

the_answers : answers (Open 5 2 greatest_count) steps
    ≡ (Done ∷ Pending ∷ Born 1 ∷ Done ∷ Pending ∷ Marked ∷ Ended ∷ [])
the_answers = refl

-- A raise and a lower are on no handle: the log has the one of what is in flight.
the_log : log_of (then_all (Open 5 2 greatest_count) steps (answers (Open 5 2 greatest_count) steps))
    ≡ (made 0 reads ∷ made 0 (raises_from 1) ∷ made 1 reads_for_drop ∷ made 0 marks ∷ made 1 lowers ∷ [])
the_log = refl
