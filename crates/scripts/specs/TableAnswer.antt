-- The answers to the lines of a table's script.
use Rattle.std.specs.Prelude.{◌≡◌, ℕ, ◌==◌, true, false, List, Option, Some, None, slice_get, codes}
use Rattle.commands.specs.TableModel.{Slots, outcomes_of}
use Rattle.commands.specs.declared.Reply.{Reply}
use Rattle.commands.specs.declared.Reply.TheVariants.{Done, Is, Shared, Empty, NoSlot, Refused}
use Rattle.commands.specs.Runs.{IsAmong}
use Rattle.scripts.specs.declared.table_line.TableLine.{TableLine}
use Rattle.scripts.specs.declared.table_line.TableLine.TheVariants.{Serve, Get}

abbrev pub printed_reply : Reply → List ℕ × Option ℕ
printed_reply Done = (codes "done", None)
printed_reply (Is true) = (codes "is true", None)
printed_reply (Is false) = (codes "is false", None)
printed_reply Shared = (codes "shared", None)
printed_reply Empty = (codes "empty", None)
printed_reply NoSlot = (codes "no slot", None)
printed_reply Refused = (codes "refused", None)

-- what a slot reads, if there is such a slot
abbrev pub printed_slot : Option (Option ℕ) → List ℕ × Option ℕ
printed_slot None = (codes "no slot", None)
printed_slot (Some None) = (codes "empty", None)
printed_slot (Some (Some value)) = (codes "value ", Some value)

-- this answers a line that finds the old slots and leaves the new
abbrev pub IsAnsweredBy : TableLine → Slots ℕ → List ℕ × Option ℕ → Slots ℕ → Type 0
IsAnsweredBy (Serve command) old printed new =
    (reply : Reply) × IsAmong (outcomes_of (λ a b. a == b) command old) reply new × (printed ≡ printed_reply reply)
IsAnsweredBy (Get slot) old printed new = (printed ≡ printed_slot (slice_get old slot)) × (new ≡ old)
