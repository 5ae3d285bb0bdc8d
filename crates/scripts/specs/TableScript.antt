-- The runs of a script of a table.
use Rattle.std.specs.Prelude.{◌≡◌, ℕ, List, Option, None, replicate}
use Rattle.commands.specs.TableModel.{Slots}
use Rattle.scripts.specs.Fault.{Outcome, PrintsUpTo}
use Rattle.scripts.specs.Line.{Parses, IsInvalid}
use Rattle.scripts.specs.Script.{answer_text}
use Rattle.scripts.specs.TableAnswer.{IsAnsweredBy}
use Rattle.scripts.specs.TableLine.{table_line}
use Rattle.scripts.specs.declared.table_line.TableLine.{TableLine}

-- the line asks something of a table, and the text is an answer of the reference model with these slots
abbrev pub TableAnswers : Slots ℕ → List ℕ → List ℕ → Slots ℕ → Type 0
TableAnswers old line text new =
    (asked : TableLine) × Parses table_line line asked
    × (printed : List ℕ × Option ℕ) × IsAnsweredBy asked old printed new × (text ≡ answer_text printed)

-- A run of the script on a table of that many slots, all empty at first, ends with this outcome and has written this
-- text. Line by line, each answer is one that the reference model allows.
pub record PrintsModelTable (slots : ℕ) (script : List ℕ) (outcome : Outcome) (text : List ℕ) : Type 0 where
  pub left : Slots ℕ
  pub prints : PrintsUpTo TableAnswers (IsInvalid table_line) (replicate slots None) script outcome text left
