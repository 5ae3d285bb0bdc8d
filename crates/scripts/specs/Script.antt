-- The lines of a script, and what a run of them writes.
use Rattle.std.specs.Prelude.{ℕ, ◌+◌, ◌==◌, List, [], ◌∷◌, ◌++◌, Option, Some, None, codes, decimal, cond}
use Rattle.std.specs.List.{onto_first}

-- the byte of a line feed
abbrev pub line_feed : ℕ
line_feed = 10

-- the line of an answer: its words, and the number after them, if there is one
abbrev pub answer_text : List ℕ × Option ℕ → List ℕ
answer_text (words, None) = words ++ line_feed ∷ []
answer_text (words, Some number) = words ++ decimal number ++ line_feed ∷ []

-- the lines of a text: what stands before each line feed, and what stands after the last one, if anything does
abbrev pub lines_of : List ℕ → List (List ℕ)
lines_of [] = []
lines_of (byte ∷ text) = cond (byte == line_feed) ([] ∷ lines_of text) (onto_first byte (lines_of text))

-- how far a run of lines came
pub data Reach : Type 0 where
  -- to the end
  AllLines : Reach
  -- to the line of this number, counted from 1, which asks for nothing
  FaultyLine : ℕ → Reach
  -- some first lines were answered
  SomeLines : Reach

-- `answers old line text new`: the line may be answered by this text, which leaves the second state
module _ {S : Type 0} (answers : S → List ℕ → List ℕ → S → Type 0) (is_faulty : List ℕ → Type 0) where
  -- From the first state these lines, which are counted from this number on, are answered in turn so far. This is
  -- written, and the second state is left.
  pub data Runs : ℕ → S → List (List ℕ) → Reach → List ℕ → S → Type 0 where
    ends : {number : ℕ} {state : S} → Runs number state [] AllLines [] state
    stops : {number : ℕ} {state : S} {lines : List (List ℕ)} → Runs number state lines SomeLines [] state
    fails : {number : ℕ} {state : S} {line : List ℕ} {lines : List (List ℕ)} → is_faulty line
        → Runs number state (line ∷ lines) (FaultyLine number) (answer_text (codes "fault: line ", Some number)) state
    goes_on : {number : ℕ} {old next new : S} {line text more : List ℕ} {lines : List (List ℕ)} {reach : Reach}
        → answers old line text next → Runs (number + 1) next lines reach more new
        → Runs number old (line ∷ lines) reach (text ++ more) new
