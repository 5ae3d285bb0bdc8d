use Rattle.std.proofs.Common.{◌≡◌, ◌+◌, map, sum}
use Rattle.std.specs.Map.{values_of}
use Rattle.uses.specs.Versions.{values_in}
use Rattle.uses.proofs.recursive.by_versions.+count.Given as goal

-- the number so far, with that of the items to come, is the whole
abbrev pub invariant-loop-item : goal.invariant-loop-item
invariant-loop-item l = l.number + sum (map values_in l.item-iterator) ≡ values_in l.value

abbrev pub invariant-loop-child : goal.invariant-loop-child
invariant-loop-child l =
    l.number + sum (values_of (map (λ e. (e.0, values_in e.1)) l.child-iterator)) ≡ values_in l.value
