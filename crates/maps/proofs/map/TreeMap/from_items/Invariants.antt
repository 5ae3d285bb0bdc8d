use Rattle.std.proofs.Common.{◌≡◌, []}
use Rattle.std.specs.Vec.Iter.{into_iter_items}
use Rattle.maps.specs.Maps.{with_entries}
use Rattle.maps.proofs.map.TreeMap.from_items.Given as goal

-- what is left to be put in makes the map of all
abbrev pub invariant-loop-key : goal.invariant-loop-key
invariant-loop-key g l =
    with_entries g.K.Ord.cmp (into_iter_items l.key-iterator) l.map ≡ with_entries g.K.Ord.cmp l.fn.items.items []
