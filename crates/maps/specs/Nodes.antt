-- The depth of the tree of a map.
use Rattle.std.specs.Prelude.{ℕ, List}
use Rattle.std.specs.declared.cmp.Ordering.{Ordering}
use Rattle.sequence.specs.Nodes.{IsDeep as IsDeepTree}
use Rattle.maps.specs.Maps.{IsRising}
use Rattle.maps.specs.declared.key.Key.{Key}

-- the separator key of an entry
abbrev pub key_of : {K V : Type 0} → K × V → Key K
key_of e = record { key = e.0 }

-- a tree with these entries has that number of nodes on each path from the root to a leaf
pub record IsDeep {K V : Type 0} (cmp : K → K → Ordering) (es : List (K × V)) (depth : ℕ) : Type 0 where
  pub rising : IsRising cmp es
  pub whole : IsDeepTree key_of es depth
