use Rattle.std.proofs.Common.{drop}
use Rattle.maps.proofs.Rising.{rising_either, rising_drop}
use Rattle.maps.proofs.entries.Entries.pop_first.Goals as goal

pub invariant_of-self : goal.invariant_of-self
invariant_of-self g c =
    let cmp = g.K.Ord.cmp in
    let es = c.self.inside.entries in
    let call = c.pop_front in
    rising_either cmp call.result call.new.self (drop 1 es) es call.ensures.items call.ensures.refused
    (rising_drop cmp 1 es c.self.invariant) c.self.invariant
