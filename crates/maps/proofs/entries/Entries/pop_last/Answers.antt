use Rattle.std.proofs.Common.{◌-◌, length, take}
use Rattle.maps.proofs.Rising.{rising_either, rising_take}
use Rattle.maps.proofs.entries.Entries.pop_last.Goals as goal

pub invariant_of-self : goal.invariant_of-self
invariant_of-self g c =
    let cmp = g.K.Ord.cmp in
    let es = c.self.inside.entries in
    let call = c.pop in
    rising_either cmp call.result call.new.self (take (length es - 1) es) es call.ensures.items call.ensures.refused
    (rising_take cmp (length es - 1) es c.self.invariant) c.self.invariant
