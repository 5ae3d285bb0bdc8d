-- What the exit status says of how a run ended.
use Rattle.std.proofs.Common.{◌≡◌, ◌≢◌, ◌↔◌, ◌⊎◌, inl, inr, ℕ, List, [], Option, Ok, Err, refl, sym, ap, ◌∙◌, arith}
use Rattle.std.specs.Prelude.{if◌then◌else◌, ◌==◌}
use Rattle.scripts.specs.Fault.{Outcome, status_after, status_of, note_of}
use Rattle.scripts.specs.declared.fault.Fault.{Fault}
use Rattle.scripts.specs.declared.fault.Fault.TheVariants.{Arguments, Line, Input, Output, Memory}
use Rattle.scripts.specs.Program.{DidAsAsked, DidByStatus}

by_one : (outcome : Outcome) (status : ℕ) → status ≡ status_after outcome → status ≡ 1 → outcome ≡ Err Arguments
by_one (Ok done) status is one = absurd (omega arith)
by_one (Err Arguments) status is one = refl
by_one (Err (Line number)) status is one = absurd (omega arith)
by_one (Err Input) status is one = absurd (omega arith)
by_one (Err Output) status is one = absurd (omega arith)
by_one (Err Memory) status is one = absurd (omega arith)

by_three : (outcome : Outcome) (status : ℕ) → status ≡ status_after outcome → status ≡ 3 → outcome ≡ Err Input
by_three (Ok done) status is three = absurd (omega arith)
by_three (Err Arguments) status is three = absurd (omega arith)
by_three (Err (Line number)) status is three = absurd (omega arith)
by_three (Err Input) status is three = refl
by_three (Err Output) status is three = absurd (omega arith)
by_three (Err Memory) status is three = absurd (omega arith)

-- the note of the fault that has this status
abbrev note_by : ℕ → List ℕ
note_by status =
    if status == 1 then note_of Arguments else (if status == 3 then note_of Input else (if status == 5
    then note_of Memory
    else []))

note_is : (fault : Fault) → note_of fault ≡ note_by (status_of fault)
note_is Arguments = refl
note_is (Line number) = refl
note_is Input = refl
note_is Output = refl
note_is Memory = refl

pub same_note : (fault other : Fault) → status_of fault ≡ status_of other → note_of fault ≡ note_of other
same_note fault other same = note_is fault ∙ ap note_by same ∙ sym (note_is other)

-- only a fault with no note has none of these statuses
pub quiet : {P : Type 0} (fault : Fault) (status : ℕ) → status ≡ status_of fault → (note_of fault ≡ [] → P)
    → status ≢ 1 → status ≢ 3 → status ≢ 5 → P
quiet Arguments status is same not_one not_three not_five = absurd (not_one is)
quiet (Line number) status is same not_one not_three not_five = same refl
quiet Input status is same not_one not_three not_five = absurd (not_three is)
quiet Output status is same not_one not_three not_five = same refl
quiet Memory status is same not_one not_three not_five = absurd (not_five is)

pub no_fault_of_zero : {P : Type 0} (fault : Fault) → 0 ≡ status_of fault → P
no_fault_of_zero Arguments is = absurd (omega arith)
no_fault_of_zero (Line number) is = absurd (omega arith)
no_fault_of_zero Input is = absurd (omega arith)
no_fault_of_zero Output is = absurd (omega arith)
no_fault_of_zero Memory is = absurd (omega arith)

-- what holds by the outcome holds by the status
module _ (outcome : Outcome) (status : ℕ) (is : status ≡ status_after outcome) where
  pub arguments : {P : Type 0} → (outcome ≡ Err Arguments) ↔ P → (status ≡ 1) ↔ P
  arguments iff = (λ one. iff.0 (by_one outcome status is one), λ wrong. is ∙ ap status_after (iff.1 wrong))

  pub unread : {P : Type 0} → (outcome ≡ Err Arguments → P) → status ≡ 1 → P
  unread same one = same (by_one outcome status is one)

  pub read : {P : Type 0} → (outcome ≡ Err Arguments) ⊎ (outcome ≡ Err Input) ⊎ (outcome ≡ Err Memory) ⊎ P
      → (status ≡ 0) ⊎ (status ≡ 2) ⊎ (status ≡ 4) → P
  read (inl ends) status_is = let s : status ≡ 1 = is ∙ ap status_after ends in absurd (grind arith)
  read (inr (inl ends)) status_is = let s : status ≡ 3 = is ∙ ap status_after ends in absurd (grind arith)
  read (inr (inr (inl ends))) status_is = let s : status ≡ 5 = is ∙ ap status_after ends in absurd (grind arith)
  read (inr (inr (inr at_end))) status_is = at_end

  pub unwritten : {P : Type 0} → ((outcome ≡ Err Arguments) ⊎ (outcome ≡ Err Input) → P)
      → (status ≡ 1) ⊎ (status ≡ 3) → P
  unwritten same (inl one) = same (inl (by_one outcome status is one))
  unwritten same (inr three) = same (inr (by_three outcome status is three))

  pub wrote : {words : List (List ℕ)} {input old new : Option (List ℕ)}
      → (outcome ≡ Err Arguments) ⊎ DidAsAsked words input outcome old new
      → (status ≡ 1) ⊎ DidByStatus words input status old new
  wrote (inl ends) = inl (is ∙ ap status_after ends)
  wrote (inr did) = inr (outcome, is, did)
