-- The reference model of a table of unions: each value is a first or a second.
use Rattle.std.specs.Prelude.{ℕ, Bool, true, false, List, [], ◌∷◌, Option, Some, None}
use Rattle.commands.specs.declared.Reply.TheVariants.{Is, Refused}
use Rattle.commands.specs.TableModel.{Slots, Outcome, Meaning, at, reading, reading_both, sets, stays}
use Rattle.commands.specs.TableModel.{clones, ends, compares}
use Rattle.unions.specs.Unions.{Union, First, Second, is_first, is_second, union_eq}
use Rattle.unions.specs.declared.command.UnionCommand.{UnionCommand}
use Rattle.unions.specs.declared.command.UnionCommand.TheVariants as command

module _ {A B : Type 0} where
  -- whether two handles are of one block is open, but no block is of both kinds
  abbrev pub of_one_block : Slots (Union A B) → Union A B → Union A B → List (Outcome (Union A B))
  of_one_block slots (First a) (First x) = stays slots (Is true) ∷ stays slots (Is false) ∷ []
  of_one_block slots (First a) (Second y) = stays slots (Is false) ∷ []
  of_one_block slots (Second b) (First x) = stays slots (Is false) ∷ []
  of_one_block slots (Second b) (Second y) = stays slots (Is true) ∷ stays slots (Is false) ∷ []

  -- the slot that a command writes, if it writes one
  abbrev pub union_written : UnionCommand A B → Option ℕ
  union_written (command.First i a) = Some i
  union_written (command.Second i b) = Some i
  union_written (command.Clone i j) = Some j
  union_written (command.Drop i) = Some i
  union_written _ = None

-- what each command means, over firsts and seconds with these equalities
module _ {A B : Type 0} (first_eq : A → A → Bool) (second_eq : B → B → Bool) where
  abbrev pub equal : Union A B → Union A B → Bool
  equal = union_eq first_eq second_eq

  abbrev pub union_outcomes_of : UnionCommand A B → Meaning (Union A B)
  union_outcomes_of (command.First i a) slots = at slots i (sets slots i (First a) ∷ stays slots Refused ∷ [])
  union_outcomes_of (command.Second i b) slots = at slots i (sets slots i (Second b) ∷ stays slots Refused ∷ [])
  union_outcomes_of (command.Clone i j) slots = clones i j slots
  union_outcomes_of (command.Drop i) slots = ends i slots
  union_outcomes_of (command.IsFirst i) slots = reading slots i (λ u. stays slots (Is (is_first u)) ∷ [])
  union_outcomes_of (command.IsSecond i) slots = reading slots i (λ u. stays slots (Is (is_second u)) ∷ [])
  union_outcomes_of (command.ReadFirst i a) slots = reading slots i (λ u. stays slots (Is (equal u (First a))) ∷ [])
  union_outcomes_of (command.ReadSecond i b) slots = reading slots i (λ u. stays slots (Is (equal u (Second b)))
      ∷ [])
  union_outcomes_of (command.PtrEq i j) slots = reading_both slots i j (of_one_block slots)
  union_outcomes_of (command.Same i j) slots = compares equal i j slots
