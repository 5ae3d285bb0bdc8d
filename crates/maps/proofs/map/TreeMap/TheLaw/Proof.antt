-- A `&` to a hidden map is one to the map. Assumes `Logic`.
use mathlib.Core.Path.{refl}
use contract.BorrowLft.{⊑_refl, ⊑_meet, ⊑_static, meet_⊑_left}
use base.Fml.{Incl, Incl-trans}
use denote.RattleType.{RattleType}
use denote.Param.Laws.{Laws, Shares-at}
use Rattle.std.specs.declared.cmp.Ord as ord
use Rattle.std.specs.declared.cmp.PartialEq as eq
use Rattle.std.specs.declared.cmp.PartialOrd as partial
use Rattle.maps.specs.Laid.Owned.{map_row}
use Rattle.maps.specs.contracts.map.TreeMap.{the_written}
use Rattle.maps.proofs.entries.Entries.TheLaws.{the_row_laws as map_laws}
use Rattle.maps.proofs.map.TreeMap.TheLaw.Statement.{statement}

module _ (K V : RattleType) (g : ord.Ghosts K.Denot) (g' : eq.Ghosts K.Denot) (g'' : partial.Ghosts K.Denot) where
  within : Incl (the_written K V g g' g'').lives (map_row K V g g' g'').lives
  within = search (⊑_refl, ⊑_meet, ⊑_static, meet_⊑_left) depth 24 fits 20000

  pub shares : (LK : Laws K) (LV : Laws V) → statement K V g g' g'' LK LV
  shares LK LV = let L = map_laws K V g g' g'' LK LV in record {
    shr_laws = L.shr_laws;
    shares = λ M 𝓤 𝓛 d κ ts b o inc sp. Shares-at 𝓛 (map_row K V g g' g'') (the_written K V g g' g'').mir refl
        (L.shares 𝓛) d κ ts b o (Incl-trans inc within) sp;
  }
