-- What a command may change: nothing, or the one slot that it writes.
use Rattle.std.proofs.Common.{◌≡◌, ◌≢◌, ◌⊎◌, inl, inr, ℕ, Bool, List, [], ◌∷◌, Option, Some, None}
use Rattle.std.proofs.Common.{length, slice_get, slice_set, refl, ◌∙◌, ap, arith}
use Rattle.std.proofs.lemmas.Grind.{common_steps}
use Rattle.std.proofs.lemmas.List.{length-set}
use Rattle.std.proofs.lemmas.Option.{gets}
use Rattle.commands.specs.declared.Command.TheVariants.{New, Clone, Drop, GetMut, IntoUnique, MakeMut}
use Rattle.commands.specs.declared.Command.TheVariants.{Own, Mark, Raw, PtrEq, Same}
use Rattle.commands.specs.declared.Reply.{Reply}
use Rattle.commands.specs.declared.Reply.TheVariants.{Done}
use Rattle.commands.specs.Runs.{IsAmong}
use Rattle.commands.specs.TableLaws.{written, plain_written, NumberOfSlotsStays, OtherSlotsStay, OnlyDoneChanges}
use Rattle.commands.specs.TableModel.{Slots, Outcome, Meaning, if_there, if_filled, at, reading, reading_both}
use Rattle.commands.specs.TableModel.{command_of, outcomes_of, plain_outcomes_of}

module _ {V : Type 0} where
  get-set_other : (slots : Slots V) (i k : ℕ) (slot : Option V) → i ≢ k → slice_get (slice_set slots i slot)
      k ≡ slice_get slots k
  get-set_other slots i k slot other = grind (arith, common_steps, gets)

  -- the slots stay, or the target is set and the reply is `Done`
  abbrev pub IsChange : Slots V → Option ℕ → Reply → Slots V → Type 0
  IsChange old target reply new =
      (new ≡ old) ⊎ ((i : ℕ) × (slot : Option V) × (target ≡ Some i) × (reply ≡ Done) × (new ≡ slice_set old i slot))

  abbrev pub AreChanges : Slots V → Option ℕ → List (Outcome V) → Type 0
  AreChanges old target [] = Unit {0}
  AreChanges old target (outcome ∷ outcomes) =
      IsChange old target outcome.0 outcome.1 × AreChanges old target outcomes

  change_of : (old : Slots V) (target : Option ℕ) (outcomes : List (Outcome V)) (reply : Reply) (new : Slots V)
      → AreChanges old target outcomes → IsAmong outcomes reply new → IsChange old target reply new
  change_of old target [] reply new changes among = absurd among
  change_of old target (outcome ∷ outcomes) reply new changes (inl is) = rw is.0 (rw is.1 changes.0)
  change_of old target (outcome ∷ outcomes) reply new changes (inr among) =
      change_of old target outcomes reply new changes.1 among

  pub set : (old : Slots V) (i : ℕ) (slot : Option V) → IsChange old (Some i) Done (slice_set old i slot)
  set old i slot = inr (i, slot, refl, refl, refl)

  pub set_or : (old : Slots V) (i : ℕ) (v : V) (refused : Reply)
      → AreChanges old (Some i) ((Done, slice_set old i (Some v)) ∷ (refused, old) ∷ [])
  set_or old i v refused = (set old i (Some v), (inl refl, tt))

  pub there : (old : Slots V) (target : Option ℕ) (i : ℕ) (outcomes : List (Outcome V))
      → AreChanges old target outcomes → AreChanges old target (at old i outcomes)
  there old target i outcomes rest =
      elim (slice_get old i) as (λ found. AreChanges old target (if_there old found outcomes))
      [ None ↦ (inl refl, tt) | Some slot ↦ rest ]

  pub reads : (old : Slots V) (target : Option ℕ) (i : ℕ) (outcomes : V → List (Outcome V))
      → ((v : V) → AreChanges old target (outcomes v)) → AreChanges old target (reading old i outcomes)
  reads old target i outcomes rest =
      elim (slice_get old i) as (λ found. AreChanges old target (if_filled old found outcomes))
      [ None ↦ (inl refl, tt) | Some None ↦ (inl refl, tt) | Some (Some v) ↦ rest v ]

  pub reads_both : (old : Slots V) (target : Option ℕ) (i j : ℕ) (outcomes : V → V → List (Outcome V))
      → ((v w : V) → AreChanges old target (outcomes v w)) → AreChanges old target (reading_both old i j outcomes)
  reads_both old target i j outcomes rest =
      there old target j _ (reads old target i _ (λ v. reads old target j (outcomes v) (rest v)))

  -- every command changes what it writes, and no more
  abbrev pub AllChange : {C : Type 0} → (C → Meaning V) → (C → Option ℕ) → Type 0
  AllChange {C} meaning written_by =
      (command : C) (old : Slots V) → AreChanges old (written_by command) (meaning command old)

  module _ {C : Type 0} (meaning : C → Meaning V) (written_by : C → Option ℕ)
      (all : AllChange meaning written_by) where
    pub number_stays : NumberOfSlotsStays meaning
    number_stays [] old new [] run = ap length run
    number_stays (c ∷ cs) old new (r ∷ rs) run =
        number_stays cs run.0 new rs run.2 ∙ elim (change_of old _ _ r run.0 (all c old) run.1)
        [ inl same ↦ ap length same | inr sets ↦ ap length sets.4 ∙ length-set old sets.0 sets.1 ]
    number_stays [] old new (r ∷ rs) run = absurd run
    number_stays (c ∷ cs) old new [] run = absurd run

    pub others_stay : OtherSlotsStay meaning written_by
    others_stay command old new reply i among other = elim (change_of old _ _ reply new (all command old) among) [
      | inl same ↦ ap (λ slots. slice_get slots i) same
      | inr sets ↦ ap (λ slots. slice_get slots i) sets.4
          ∙ get-set_other old sets.0 i sets.1 (λ e. other (sets.2 ∙ ap Some e))
    ]

    pub only_done : OnlyDoneChanges meaning
    only_done command old new reply among undone =
        elim (change_of old _ _ reply new (all command old) among)
        [ inl same ↦ same | inr sets ↦ absurd (undone sets.3) ]

module _ {V : Type 0} (equal : V → V → Bool) where
  command_changes : AllChange (outcomes_of equal) written
  command_changes (New i v) old = there old _ i _ (set_or old i v _)
  command_changes (Clone i j) old = there old _ j _ (reads old _ i _ (λ v. set_or old j v _))
  command_changes (Drop i) old = reads old _ i _ (λ _. (set old i None, tt))
  command_changes (GetMut i w) old = reads old _ i _ (λ _. set_or old i w _)
  command_changes (IntoUnique i w) old = reads old _ i _ (λ _. set_or old i w _)
  command_changes (MakeMut i w) old = reads old _ i _ (λ _. set_or old i w _)
  command_changes (Own i) old = reads old _ i _ (λ _. (inl refl, (inl refl, tt)))
  command_changes (Mark i) old = reads old _ i _ (λ _. (inl refl, tt))
  command_changes (Raw i) old = reads old _ i _ (λ _. (inl refl, tt))
  command_changes (PtrEq i j) old = reads_both old _ i j _ (λ _ _. (inl refl, (inl refl, tt)))
  command_changes (Same i j) old = reads_both old _ i j _ (λ _ _. (inl refl, tt))

  pub number_stays_table : NumberOfSlotsStays (outcomes_of equal)
  number_stays_table = number_stays _ _ command_changes

  pub others_stay_table : OtherSlotsStay (outcomes_of equal) written
  others_stay_table = others_stay _ _ command_changes

  pub only_done_table : OnlyDoneChanges (outcomes_of equal)
  only_done_table = only_done _ _ command_changes

  pub number_stays_plain : NumberOfSlotsStays (plain_outcomes_of equal)
  number_stays_plain = number_stays _ plain_written (λ command. command_changes (command_of command))

  pub others_stay_plain : OtherSlotsStay (plain_outcomes_of equal) plain_written
  others_stay_plain command = others_stay_table (command_of command)

  pub only_done_plain : OnlyDoneChanges (plain_outcomes_of equal)
  only_done_plain command = only_done_table (command_of command)
