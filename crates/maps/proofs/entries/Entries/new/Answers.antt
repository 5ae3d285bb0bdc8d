use Rattle.std.proofs.Common.{sym, subst}
use Rattle.maps.specs.Maps.{IsRising}
use Rattle.maps.proofs.Order.{rising_nil}
use Rattle.maps.proofs.entries.Entries.new.Goals as goal

pub invariant_of-result : goal.invariant_of-result
invariant_of-result g c =
    subst (IsRising g.K.Ord.cmp) (sym c.empty.ensures) (rising_nil g.row.V.Denot g.K.Ord.cmp)
