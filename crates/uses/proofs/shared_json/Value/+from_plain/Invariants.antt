use Rattle.std.proofs.Common.{◌≡◌, ◌++◌, map, String, Global}
use Rattle.serde_json.specs.Data.{Data}
use Rattle.serde_json.specs.View as plain
use Rattle.uses.specs.Json.{view}
use Rattle.uses.proofs.shared_json.Value.+from_plain.Given as goal

abbrev pub invariant-loop-item : goal.invariant-loop-item
invariant-loop-item l = map view l.shared.items ≡ map plain.view l.yielded

abbrev pub invariant-loop-name : goal.invariant-loop-name
invariant-loop-name l =
    map {B = String Global × Data} (λ e. (e.0, view e.1)) l.shared.items
    ++ map (λ e. (e.0, plain.view e.1)) l.name-iterator
    ≡ map (λ e. (e.0, plain.view e.1)) l.initial.name-iterator
