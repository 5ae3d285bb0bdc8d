-- The differences between two maps.
use Rattle.std.specs.Prelude.{List, [], ◌∷◌, Option, None, Some, Bool, cond, map}
use Rattle.std.specs.Borrow.{Bor}
use Rattle.std.specs.declared.cmp.Ordering.{Ordering}
use Rattle.std.specs.declared.cmp.Ordering.TheVariants.{Less, Equal, Greater}
use Rattle.maps.specs.declared.entries.diff.DiffItem.{DiffItem}
use Rattle.maps.specs.declared.entries.diff.DiffItem.TheVariants.{Added, Removed, Changed}

-- the old and the new value under a key, if they differ
abbrev pub difference : {V : Type 0} → (V → V → Bool) → Option V → Option V → Option (Option V × Option V)
difference eq None None = None
difference eq None (Some after) = Some (None, Some after)
difference eq (Some before) None = Some (Some before, None)
difference eq (Some before) (Some after) = cond (eq before after) None (Some (Some before, Some after))

-- the old and the new value of a `DiffItem`
abbrev pub sides : {V : Type 0} → DiffItem V → Option V × Option V
sides (Added after) = (None, Some after.now)
sides (Removed before) = (Some before.now, None)
sides (Changed before after) = (Some before.now, Some after.now)

-- a key and its `DiffItem` as an entry
abbrev pub as_entry : {K V : Type 0} → Bor K × DiffItem V → K × (Option V × Option V)
as_entry c = (c.0.now, sides c.1)

-- the list that `diff` returns, as entries
abbrev pub listed : {K V : Type 0} → List (Bor K × DiffItem V) → List (K × (Option V × Option V))
listed changes = map (λ c. (c.0.now, sides c.1)) changes

-- the difference under the lesser key of two entries, given the order of their keys
abbrev pub change_of : {K V : Type 0} → (V → V → Bool) → Ordering → K × V → K × V → Option (K × (Option V × Option V))
change_of eq Less old new = Some (old.0, (Some old.1, None))
change_of eq Equal old new = cond (eq old.1 new.1) None (Some (old.0, (Some old.1, Some new.1)))
change_of eq Greater old new = Some (new.0, (None, Some new.1))

module _ {K V : Type 0} (cmp : K → K → Ordering) (eq : V → V → Bool) where
  -- the order of the first keys of both maps, and the difference under the lesser one
  abbrev pub first_change : List (K × V) → List (K × V) → Option (Ordering × Option (K × (Option V × Option V)))
  first_change [] [] = None
  first_change (old ∷ olds) [] = Some (Less, Some (old.0, (Some old.1, None)))
  first_change [] (new ∷ news) = Some (Greater, Some (new.0, (None, Some new.1)))
  first_change (old ∷ olds) (new ∷ news) = Some (cmp old.0 new.0, change_of eq (cmp old.0 new.0) old new)
