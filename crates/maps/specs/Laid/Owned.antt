-- The map as its `Entries`.
use Rattle.std.specs.Prelude.{List}
use base.Fml.{Fml, Lft, ffalse}
use denote.RattleType.{RattleType}
use denote.RawPtr.{Ptr, block_ptr, null_ptr}
use Rattle.std.specs.declared.cmp.Ord as ord
use Rattle.std.specs.declared.cmp.PartialEq as eq
use Rattle.std.specs.declared.cmp.PartialOrd as partial
use Rattle.maps.specs.contracts.entries.Entries as map

module _ (K V : RattleType) (g : ord.Ghosts K.Denot) (g' : eq.Ghosts K.Denot) (g'' : partial.Ghosts K.Denot) where
  abbrev pub map_row : RattleType
  map_row = map.the_row K V g g' g''

  abbrev pub map_lent : List (K.Denot × V.Denot) → Ptr → Lft → Fml
  map_lent es (block_ptr b o) κ = (map_row).shr_at es b o κ
  map_lent es null_ptr κ = ffalse
