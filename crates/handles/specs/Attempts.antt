-- The outcomes of an attempt to clone a handle.
use Rattle.std.specs.Prelude.{◌≡◌, ℕ, ◌+◌, ◌⊎◌, Bool, [], Option, None, false}
use Rattle.counting_word.specs.CountingWord.{IsWithin, is_marked_word}
use Rattle.counting_word.specs.Plans.{clone_plan}
use Rattle.counting_word.specs.Rights.{right_by_read}
use Rattle.counting_word.specs.declared.ClonePlan.TheVariants.{Static as StaticPlan, Full as FullPlan, Raise}
use Rattle.handles.specs.Founds.{Answers, Found, HasFound, FoundFull, LostRaise}
use Rattle.counting_word.specs.WordSteps.{WordStep, marks}
use Rattle.counting_word.specs.Logs.{made}
use Rattle.counting_word.specs.Tallies.{Adds}
use Rattle.handles.specs.declared.block.handle.Handle.{Handle}
use Rattle.handles.specs.declared.block.permit.Logged.{Logged}
use Rattle.handles.specs.declared.block.permit.Permit.{Permit}
use Rattle.handles.specs.declared.attempt.Attempt.{Attempt}
use Rattle.handles.specs.declared.attempt.Attempt.TheVariants.{Made, Full, Lost}

-- the word that a step through the handle found, and the permit that it left
abbrev pub IsSeen : {X : Type 0} → Handle X → ℕ → Permit X → Type 0
IsSeen of word permit =
    (permit.held ≡ of.held) × (permit.block ≡ of.block) × (permit.id ≡ of.id)
    × (permit.right ≡ right_by_read word) × IsWithin word of.held.limit.count
    × Found of.held.limit.count word permit.log
    × (is_marked_word word ≡ false → HasFound of.number word permit.log)

-- one more handle of the same block
abbrev pub IsMadeOf : {X : Type 0} → Handle X → Handle X → Type 0
IsMadeOf of h = (h.held ≡ of.held) × (h.sole ≡ false) × (h.id ≡ of.id)

-- the block of the handle was found to be full
abbrev pub IsFullOf : {X : Type 0} → Handle X → Logged → Type 0
IsFullOf of logged = (logged.id ≡ of.id) × FoundFull of.held.limit.count logged.log

-- a raise through the handle was lost
abbrev pub IsLostOf : {X : Type 0} → Handle X → Logged → Type 0
IsLostOf of logged = (logged.id ≡ of.id) × LostRaise of.held.limit.count of.number logged.log

-- either of the two
abbrev pub IsRefusedOf : {X : Type 0} → Handle X → Logged → Type 0
IsRefusedOf of logged = IsFullOf of logged ⊎ IsLostOf of logged

-- This step of the handle found a word of which the test says this.
abbrev pub IsAnswerOf : {X : Type 0} → Handle X → WordStep → (ℕ → Bool) → Bool → Logged → Type 0
IsAnswerOf of s test answer logged =
    (logged.id ≡ of.id) × Answers of.held.limit.count of.number s test answer logged.log

-- The handle's block was marked by this step.
abbrev pub IsMarking : {X : Type 0} → Handle X → Logged → Type 0
IsMarking of logged =
    (logged.id ≡ of.id) × (found : ℕ) × Adds of.held.limit.count [] (made of.number marks) found logged.log

-- A handle that was made holds the same. A full block was found to be full, and a lost raise found another word.
abbrev pub IsAttempt : {X : Type 0} → Handle X → Attempt X → Type 0
IsAttempt of (Made h) = IsMadeOf of h
IsAttempt of (Full logged) = IsFullOf of logged
IsAttempt of (Lost word permit) = IsSeen of word permit × LostRaise of.held.limit.count of.number permit.log

-- What the plan is by the word that was seen: a handle is made with no further step or by a raise.
abbrev pub IsPlanned : {X : Type 0} → ℕ → ℕ → Attempt X → Type 0
IsPlanned word limit (Made h) =
    (clone_plan word limit ≡ StaticPlan) ⊎ (clone_plan word limit ≡ Raise (word + 1))
IsPlanned word limit (Full logged) = clone_plan word limit ≡ FullPlan
IsPlanned word limit (Lost found permit) = clone_plan word limit ≡ Raise (word + 1)

-- In some state such turns are at an end. It does not say that any were taken to that state.
abbrev pub Stops : {S A : Type 0} → (S → Option A → S → Type 0) → Type 0
Stops {S = S} steps = (turns : S) × (after : S) × steps turns None after
