use Rattle.std.proofs.Common.{◌∙◌, ap₂}
use Rattle.maps.specs.Maps.{with_entries}
use Rattle.maps.proofs.map.TreeMap.union.Goals as goal

pub returns : goal.returns
returns g c =
    c.in_ok-append.ensures.entries ∙ ap₂ (with_entries g.K.Ord.cmp) c.deref.ensures
    (c.deref_mut.ensures.value ∙ c.in_ok-both.ensures.cases)
