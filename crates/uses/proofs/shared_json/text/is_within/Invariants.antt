use Rattle.std.proofs.Common.{◌↔◌, ◌≤◌, length}
use Rattle.uses.specs.JsonLevels.{most_open}
use Rattle.uses.proofs.shared_json.text.is_within.Given as goal

abbrev pub invariant-loop-token : goal.invariant-loop-token
invariant-loop-token l =
    (l.open ≤ l.levels) × ((most_open 0 l.initial.reader ≤ l.levels) ↔ (most_open l.open l.reader ≤ l.levels))

abbrev pub decreases-loop-token : goal.decreases-loop-token
decreases-loop-token l = length l.reader
