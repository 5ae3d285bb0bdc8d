use Rattle.std.proofs.Common.{◌≡◌}
use Rattle.maps.specs.Maps.{with_entries}
use Rattle.maps.proofs.entries.Entries.append.Given as goal

-- what is left to be put in makes the map of all
abbrev pub invariant-loop-entry : goal.invariant-loop-entry
invariant-loop-entry g l =
    with_entries g.K.Ord.cmp l.entry-iterator l.both ≡ with_entries g.K.Ord.cmp l.other l.self
