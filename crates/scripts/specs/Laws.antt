-- The statements of the lemmas about every text and every line of a script.
use Rattle.std.specs.Prelude.{◌≡◌, ◌≢◌, ℕ, List, [], ◌∷◌, ◌++◌, All}
use Rattle.std.specs.List.{flat_map}
use Rattle.scripts.specs.Script.{line_feed, lines_of}
use Rattle.scripts.specs.Line.{AsksForOneThing}
use Rattle.scripts.specs.StepLine.{step_line}
use Rattle.scripts.specs.TableLine.{table_line}

-- no byte is a line feed
abbrev pub IsUnbroken : List ℕ → Type 0
IsUnbroken bytes = All (λ byte. byte ≢ line_feed) bytes

-- the bytes as a line, if there is any
abbrev pub line_if_any : List ℕ → List (List ℕ)
line_if_any [] = []
line_if_any (byte ∷ bytes) = (byte ∷ bytes) ∷ []

-- the text is lines, each with a line feed after it, and at last maybe one without
pub record AreLines (text : List ℕ) (lines : List (List ℕ)) : Type 0 where
  pub ended : List (List ℕ)
  pub last : List ℕ
  pub text_is : text ≡ flat_map (λ line. line ++ line_feed ∷ []) ended ++ last
  pub lines_are : lines ≡ ended ++ line_if_any last
  pub unbroken : All IsUnbroken ended × IsUnbroken last

-- `lines_of` gives the lines of each text, and it has no others
abbrev pub EachTextHasItsLines : Type 0
EachTextHasItsLines = (text : List ℕ) →
    AreLines text (lines_of text) × ((others : List (List ℕ)) → AreLines text others → lines_of text ≡ others)

abbrev pub EachLineIsOneStep : Type 0
EachLineIsOneStep = AsksForOneThing step_line

abbrev pub EachLineAsksOneThingOfATable : Type 0
EachLineAsksOneThingOfATable = AsksForOneThing table_line
