-- How a run ends, and how the program reports it by its exit status and on standard error.
use Rattle.std.specs.Prelude.{◌≡◌, ◌≢◌, ℕ, List, [], ◌∷◌, ◌++◌, Result, Ok, Err, codes}
use Rattle.scripts.specs.Script.{Runs, Reach, AllLines, FaultyLine, lines_of, line_feed}
use Rattle.scripts.specs.declared.fault.Fault.{Fault}
use Rattle.scripts.specs.declared.fault.Fault.TheVariants.{Arguments, Line, Input, Output, Memory}

abbrev pub status_of : Fault → ℕ
status_of Arguments = 1
status_of (Line _) = 2
status_of Input = 3
status_of Output = 4
status_of Memory = 5

-- the line that standard error gets, if the fault is reported there
abbrev pub note_of : Fault → List ℕ
note_of Arguments = codes "fault: arguments" ++ line_feed ∷ []
note_of Input = codes "fault: input" ++ line_feed ∷ []
note_of Memory = codes "fault: memory" ++ line_feed ∷ []
note_of (Line _) = []
note_of Output = []

-- the whole script ran, or a fault ended the run
abbrev pub Outcome : Type 0
Outcome = Result Unit Fault

abbrev pub status_after : Outcome → ℕ
status_after (Ok _) = 0
status_after (Err fault) = status_of fault

-- the fault comes once the script was read
abbrev pub IsFaultOfRun : Fault → Type 0
IsFaultOfRun fault = (fault ≢ Arguments) × (fault ≢ Input)

-- how far the run came by its outcome, and what of its text was not written: if the input, the output or memory
-- failed, that is unknown
abbrev pub Reaches : Outcome → Reach → List ℕ → Type 0
Reaches (Ok _) reach left = (reach ≡ AllLines) × (left ≡ [])
Reaches (Err (Line number)) reach left = (reach ≡ FaultyLine number) × (left ≡ [])
Reaches (Err _) reach left = Unit

-- what a run with this outcome has written of its script
pub record PrintsUpTo {S : Type 0} (answers : S → List ℕ → List ℕ → S → Type 0) (is_faulty : List ℕ → Type 0)
    (old : S) (script : List ℕ) (outcome : Outcome) (text : List ℕ) (new : S) : Type 0 where
  pub reach : Reach
  pub left : List ℕ
  pub reaches : Reaches outcome reach left
  pub runs : Runs answers is_faulty 1 old (lines_of script) reach (text ++ left) new
