use Rattle.std.proofs.Common.{◌≡◌, ◌++◌, map}
use Rattle.serde_json.specs.View as plain
use Rattle.uses.specs.Json.{members_view, view}
use Rattle.uses.proofs.JsonSeen.{puts}
use Rattle.uses.proofs.shared_json.Value.+to_plain.Given as goal

abbrev pub invariant-loop-item : goal.invariant-loop-item
invariant-loop-item l = map plain.view l.copies.items ++ map view l.item-iterator ≡ map view l.initial.item-iterator

abbrev pub invariant-loop-name : goal.invariant-loop-name
invariant-loop-name l =
    puts l.name-iterator (plain.members_view l.copies.entries) ≡ members_view l.initial.name-iterator
