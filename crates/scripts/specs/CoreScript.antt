-- The runs of a script of a core.
use Rattle.std.specs.Prelude.{◌≡◌, ℕ, List}
use Rattle.counting_core.specs.declared.step.Answer.{Answer}
use Rattle.counting_core.specs.Legal.{IsLegal}
use Rattle.counting_core.specs.Represents.{CoreState, Continues}
use Rattle.counting_core.specs.declared.step.Step.{Step}
use Rattle.counting_core.specs.Trace.{Trace, Open, Then}
use Rattle.scripts.specs.Fault.{Outcome, PrintsUpTo}
use Rattle.scripts.specs.Line.{Parses, IsInvalid}
use Rattle.scripts.specs.Script.{answer_text}
use Rattle.scripts.specs.StepAnswer.{printed_answer}
use Rattle.scripts.specs.StepLine.{step_line}

-- the line is a step's, and the text is its answer in a core
abbrev pub CoreAnswers : CoreState ℕ → List ℕ → List ℕ → CoreState ℕ → Type 0
CoreAnswers old line text new =
    (step : Step ℕ) × Parses step_line line step × (answer : Answer ℕ) × Continues old step answer new
    × (text ≡ answer_text (printed_answer answer))

-- the same in a trace
abbrev pub TraceAnswers : Trace ℕ → List ℕ → List ℕ → Trace ℕ → Type 0
TraceAnswers old line text new =
    (step : Step ℕ) × Parses step_line line step × (answer : Answer ℕ) × (new ≡ Then old step answer)
    × (text ≡ answer_text (printed_answer answer))

-- The script is answered, line by line, as some legal trace of a block of the value 5, so many owners and this limit
-- goes, and this is what a run with that outcome has written.
pub record PrintsLegalTrace (owners limit : ℕ) (script : List ℕ) (outcome : Outcome) (text : List ℕ)
    : Type 0 where
  pub trace : Trace ℕ
  pub legal : IsLegal trace
  pub prints : PrintsUpTo TraceAnswers (IsInvalid step_line) (Open 5 owners limit) script outcome text trace
