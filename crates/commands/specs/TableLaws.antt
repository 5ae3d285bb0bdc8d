-- The statements of the lemmas about commands on slots, whatever the commands mean.
use Rattle.std.specs.Prelude.{◌≡◌, ◌≢◌, ℕ, List, Option, Some, None, length, slice_get}
use Rattle.commands.specs.declared.Command.{Command}
use Rattle.commands.specs.declared.Command.TheVariants.{New, Clone, Drop, GetMut, IntoUnique, MakeMut}
use Rattle.commands.specs.declared.PlainCommand.{PlainCommand}
use Rattle.commands.specs.declared.Reply.{Reply}
use Rattle.commands.specs.declared.Reply.TheVariants.{Done}
use Rattle.commands.specs.TableModel.{Slots, Meaning, command_of}
use Rattle.commands.specs.Runs.{IsAmong, Run}

-- the slot that a command writes, if it writes one
abbrev pub written : {V : Type 0} → Command V → Option ℕ
written (New i v) = Some i
written (Clone i j) = Some j
written (Drop i) = Some i
written (GetMut i v) = Some i
written (IntoUnique i v) = Some i
written (MakeMut i v) = Some i
written _ = None

abbrev pub plain_written : {V : Type 0} → PlainCommand V → Option ℕ
plain_written command = written (command_of command)

module _ {C V : Type 0} (meaning : C → Meaning V) where
  abbrev pub NumberOfSlotsStays : Type 0
  NumberOfSlotsStays =
      (commands : List C) (old new : Slots V) (replies : List Reply)
      → Run meaning commands old replies new → length new ≡ length old

  abbrev pub OtherSlotsStay : (C → Option ℕ) → Type 0
  OtherSlotsStay written_by =
      (command : C) (old new : Slots V) (reply : Reply) (i : ℕ)
      → IsAmong (meaning command old)
      reply new → written_by command ≢ Some i → slice_get new i ≡ slice_get old i

  abbrev pub OnlyDoneChanges : Type 0
  OnlyDoneChanges =
      (command : C) (old new : Slots V) (reply : Reply)
      → IsAmong (meaning command old) reply new → reply ≢ Done → new ≡ old
