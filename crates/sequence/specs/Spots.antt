-- An index among the items under the children of a branch: the child, and the index within the child.
use Rattle.std.specs.Prelude.{◌≡◌, ℕ, ◌+◌, ◌-◌, ◌<◌, ◌≤◌, List, ◌++◌, cond, length, nat_le, take, drop}
use Rattle.std.specs.Prelude.{slice_index_or}
use Rattle.sequence.specs.declared.tree.Child.{Child}
use Rattle.sequence.specs.declared.tree.ends.End.{End}
use Rattle.sequence.specs.declared.tree.ends.End.TheVariants.{First, Last}
use Rattle.sequence.specs.declared.tree.search.Spot.{Spot}
use Rattle.sequence.specs.Nodes.{items_in}

-- a list with these items in place of so many from there on
abbrev pub spliced : {T : Type 0} → ℕ → ℕ → List T → List T → List T
spliced at gone more es = take at es ++ (more ++ drop (at + gone) es)

-- the number of the one of so many that stands at an end of them
abbrev pub place_at : End → ℕ → ℕ
place_at First len = 0
place_at Last len = len - 1

-- the place of all the items is that place of that child, and is before all of it only if it is before all items
pub record Leads {T L : Type 0} (cs : List (Child T L)) (place : ℕ) (spot : Spot) : Type 0 where
  pub within : spot.child < length cs
  pub inside : (d : Child T L) → spot.place ≤ length (slice_index_or cs spot.child d).tree.0
  pub is : place ≡ length (items_in (take spot.child cs)) + spot.place
  pub inner : 0 < place → 0 < spot.place

-- the same spot once only so many items are left under its child, and the rest under the next
abbrev pub past : ℕ → Spot → Spot
past left spot =
    cond (nat_le spot.place left) spot (record { child = spot.child + 1; place = spot.place - left })

-- the place is between that child and the one before it
pub record IsEdge {T L : Type 0} (cs : List (Child T L)) (place at : ℕ) : Type 0 where
  pub some : 0 < at
  pub is : place ≡ length (items_in (take at cs))
