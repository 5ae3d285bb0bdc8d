-- What the program writes on its output, if what is written there can be known.
use Rattle.std.specs.Prelude.{◌≡◌, ℕ, List, Option, IfSome}
use Rattle.scripts.specs.Fault.{Outcome, status_after}
use Rattle.scripts.specs.Written.{Wrote}
use Rattle.scripts.specs.Arguments.{Asks}
use Rattle.scripts.specs.CoreScript.{PrintsLegalTrace}
use Rattle.scripts.specs.TableScript.{PrintsModelTable}
use Rattle.scripts.specs.declared.arguments.Request.{Request}
use Rattle.scripts.specs.declared.arguments.Request.TheVariants.{Core, Table}

-- what a run of the script that is asked for has written, by how it ended
abbrev pub PrintsAsAsked : Request → List ℕ → Outcome → List ℕ → Type 0
PrintsAsAsked (Core owners limit) = PrintsLegalTrace owners limit
PrintsAsAsked (Table slots) = PrintsModelTable slots

-- What the words ask for was done with the bytes of the input, if those can be known.
pub record DidAsAsked (words : List (List ℕ)) (input : Option (List ℕ)) (outcome : Outcome)
    (old new : Option (List ℕ)) : Type 0 where
  pub request : Request
  pub asks : Asks words request
  pub wrote : IfSome input (λ script. Wrote (PrintsAsAsked request script outcome) old new)

-- the same, by the exit status
abbrev pub DidByStatus : List (List ℕ) → Option (List ℕ) → ℕ → Option (List ℕ) → Option (List ℕ)
    → Type 0
DidByStatus words input status old new =
    (outcome : Outcome) × (status ≡ status_after outcome) × DidAsAsked words input outcome old new
