-- What a hidden map holds once a `&mut` to the map has ended: what was last written through it.
use Rattle.std.specs.Prelude.{Bool, List, Option}
use Rattle.std.specs.Borrow.{Fml, MutBor, RattleType, Lends}
use Rattle.std.specs.declared.cmp.Ordering.{Ordering}
use Rattle.maps.specs.Laid.Owned.{map_row}
use Rattle.maps.specs.contracts.map.TreeMap.{the_row}

abbrev pub LendsMap : (K V : RattleType) → (K.Denot → K.Denot → Ordering) → (K.Denot → K.Denot → Bool)
    → (K.Denot → K.Denot → Option Ordering) → MutBor (List (K.Denot × V.Denot))
    → MutBor (List (K.Denot × V.Denot)) → Fml
LendsMap K V cmp eq partial_cmp h r =
    Lends (the_row K V (record { cmp = cmp }) (record { eq = eq }) (record { partial_cmp = partial_cmp }))
    (map_row K V (record { cmp = cmp }) (record { eq = eq }) (record { partial_cmp = partial_cmp })) h r (λ w. w)
