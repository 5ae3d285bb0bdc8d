-- The reference model of a table: a list of optional values. No slot shares anything with another.
use Rattle.std.specs.Prelude.{ℕ, Bool, true, false, List, [], ◌∷◌, Option, Some, None, slice_get, slice_set}
use Rattle.commands.specs.declared.Command.{Command}
use Rattle.commands.specs.declared.Command.TheVariants.{New, Clone, Drop, GetMut, IntoUnique, MakeMut}
use Rattle.commands.specs.declared.Command.TheVariants.{Own, Mark, Raw, PtrEq, Same}
use Rattle.commands.specs.declared.PlainCommand.{PlainCommand}
use Rattle.commands.specs.declared.PlainCommand.TheVariants as plain
use Rattle.commands.specs.declared.Reply.{Reply}
use Rattle.commands.specs.declared.Reply.TheVariants.{Done, Is, Shared, Empty, NoSlot, Refused}
use Rattle.commands.specs.Runs.{IsAmong, Means}

-- slots, each with a value or empty
abbrev pub Slots : Type 0 → Type 0
Slots V = List (Option V)

-- what a command may come to: a reply, and the slots that it leaves
abbrev pub Outcome : Type 0 → Type 0
Outcome V = Reply × Slots V

-- what a command means: its outcomes, by the slots that it finds
abbrev pub Meaning : Type 0 → Type 0
Meaning V = Means (Slots V)

module _ {V : Type 0} where
  -- this reply, and no change
  abbrev pub stays : Slots V → Reply → Outcome V
  stays slots reply = (reply, slots)

  -- slot i has this value from now on
  abbrev pub sets : Slots V → ℕ → V → Outcome V
  sets slots i value = (Done, slice_set slots i (Some value))

  abbrev pub if_there : Slots V → Option (Option V) → List (Outcome V) → List (Outcome V)
  if_there slots None outcomes = stays slots NoSlot ∷ []
  if_there slots (Some slot) outcomes = outcomes

  abbrev pub if_filled : Slots V → Option (Option V) → (V → List (Outcome V)) → List (Outcome V)
  if_filled slots None outcomes = stays slots NoSlot ∷ []
  if_filled slots (Some None) outcomes = stays slots Empty ∷ []
  if_filled slots (Some (Some value)) outcomes = outcomes value

  -- the outcomes of a command that asks for slot i to be there
  abbrev pub at : Slots V → ℕ → List (Outcome V) → List (Outcome V)
  at slots i outcomes = if_there slots (slice_get slots i) outcomes

  -- the outcomes of a command that reads slot i
  abbrev pub reading : Slots V → ℕ → (V → List (Outcome V)) → List (Outcome V)
  reading slots i outcomes = if_filled slots (slice_get slots i) outcomes

  -- the outcomes of a command that reads slots i and j
  abbrev pub reading_both : Slots V → ℕ → ℕ → (V → V → List (Outcome V)) → List (Outcome V)
  reading_both slots i j outcomes = at slots j (reading slots i (λ v. reading slots j (outcomes v)))

  -- the reply of each command that reads slot i, if the slot has nothing to read
  abbrev pub IsMissing : Slots V → ℕ → Reply → Type 0
  IsMissing slots i reply = (outcomes : V → List (Outcome V)) → IsAmong (reading slots i outcomes) reply slots

  -- the same of each command that reads slots i and j
  abbrev pub AreMissing : Slots V → ℕ → ℕ → Reply → Type 0
  AreMissing slots i j reply =
      (outcomes : V → V → List (Outcome V)) → IsAmong (reading_both slots i j outcomes) reply slots

  -- slot j gets a clone of slot i's handle
  abbrev pub clones : ℕ → ℕ → Meaning V
  clones i j slots = at slots j (reading slots i (λ v. sets slots j v ∷ stays slots Refused ∷ []))

  -- slot i's handle ends
  abbrev pub ends : ℕ → Meaning V
  ends i slots = reading slots i (λ _. (Done, slice_set slots i None) ∷ [])

  -- whether two slots have equal values
  abbrev pub compares : (V → V → Bool) → ℕ → ℕ → Meaning V
  compares equal i j slots = reading_both slots i j (λ v w. stays slots (Is (equal v w)) ∷ [])

  -- what each command means, over values with this equality
  abbrev pub outcomes_of : (V → V → Bool) → Command V → Meaning V
  outcomes_of equal (New i v) slots = at slots i (sets slots i v ∷ stays slots Refused ∷ [])
  outcomes_of equal (Clone i j) slots = clones i j slots
  outcomes_of equal (Drop i) slots = ends i slots
  outcomes_of equal (GetMut i w) slots = reading slots i (λ _. sets slots i w ∷ stays slots Shared ∷ [])
  outcomes_of equal (IntoUnique i w) slots = reading slots i (λ _. sets slots i w ∷ stays slots Shared ∷ [])
  outcomes_of equal (MakeMut i w) slots = reading slots i (λ _. sets slots i w ∷ stays slots Refused ∷ [])
  outcomes_of equal (Own i) slots = reading slots i (λ _. stays slots Done ∷ stays slots Refused ∷ [])
  outcomes_of equal (Mark i) slots = reading slots i (λ _. stays slots Done ∷ [])
  outcomes_of equal (Raw i) slots = reading slots i (λ _. stays slots Done ∷ [])
  outcomes_of equal (PtrEq i j) slots =
      reading_both slots i j (λ _ _. stays slots (Is true) ∷ stays slots (Is false) ∷ [])
  outcomes_of equal (Same i j) slots = compares equal i j slots

  -- only Own may leave a copy in its slot
  abbrev pub is_own : Command V → Bool
  is_own (Own i) = true
  is_own _ = false

  -- the command of the same name
  abbrev pub command_of : PlainCommand V → Command V
  command_of (plain.New i v) = New i v
  command_of (plain.Clone i j) = Clone i j
  command_of (plain.Drop i) = Drop i
  command_of (plain.GetMut i v) = GetMut i v
  command_of (plain.IntoUnique i v) = IntoUnique i v
  command_of (plain.Mark i) = Mark i
  command_of (plain.Raw i) = Raw i
  command_of (plain.PtrEq i j) = PtrEq i j
  command_of (plain.Same i j) = Same i j

  -- a plain command means what the command of its name means
  abbrev pub plain_outcomes_of : (V → V → Bool) → PlainCommand V → Meaning V
  plain_outcomes_of equal command = outcomes_of equal (command_of command)
