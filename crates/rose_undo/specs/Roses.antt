-- A rose tree is its value and its children. A path has the index of a child for each step down.
use Rattle.std.specs.Prelude.{ℕ, suc, List, [], ◌∷◌, ◌++◌, Option, None, Some, if◌then◌else◌, insert, length, nat_le}
use Rattle.std.specs.Prelude.{map, nat_lt, remove, set, slice_get}
use Rattle.std.specs.List.{flat_map}
use Rattle.std.specs.Option.{option_map, option_and_then}
use Rattle.rose_undo.specs.declared.rose.Rose.{Rose, fold-Rose, out-Rose, roll-Rose}

abbrev pub root : {V : Type 0} → Rose V → V
root {V} tree = (out-Rose V tree).node.header

abbrev pub children : {V : Type 0} → Rose V → List (Rose V)
children {V} tree = (out-Rose V tree).node.items

abbrev pub branch : {V : Type 0} → V → List (Rose V) → Rose V
branch {V} v trees = roll-Rose V (record { node = record { header = v; items = trees } })

-- the values of the children, as the lines of a text under its name
abbrev pub values_below : {V : Type 0} → Rose V → List V
values_below tree = map root (children tree)

-- the tree at the end of a path
abbrev pub at : {V : Type 0} → List ℕ → Rose V → Option (Rose V)
at [] tree = Some tree
at (i ∷ path) tree = option_and_then (at path) (slice_get (children tree) i)

-- the tree with another child at that index
abbrev pub with_child : {V : Type 0} → ℕ → Rose V → Rose V → Rose V
with_child i child tree = branch (root tree) (set (children tree) i child)

-- the tree with a change at the end of a path, if the change is possible there
abbrev pub changed_at : {V : Type 0} → (Rose V → Option (Rose V)) → List ℕ → Rose V → Option (Rose V)
changed_at change [] tree = change tree
changed_at change (i ∷ path) tree =
    option_map (λ changed. with_child i changed tree)
    (option_and_then (changed_at change path) (slice_get (children tree) i))

-- a tree with another value
abbrev pub valued : {V : Type 0} → V → Rose V → Option (Rose V)
valued v tree = Some (branch v (children tree))

-- a tree with a child inserted at that index
abbrev pub inserted : {V : Type 0} → ℕ → Rose V → Rose V → Option (Rose V)
inserted i child tree =
    if nat_le i (length (children tree)) then Some (branch (root tree) (insert (children tree) i child)) else None

-- a tree without the child at that index
abbrev pub removed : {V : Type 0} → ℕ → Rose V → Option (Rose V)
removed i tree =
    if nat_lt i (length (children tree)) then Some (branch (root tree) (remove (children tree) i)) else None

abbrev pub with_value : {V : Type 0} → List ℕ → V → Rose V → Option (Rose V)
with_value path v = changed_at (valued v) path

abbrev pub with_tree : {V : Type 0} → List ℕ → Rose V → Rose V → Option (Rose V)
with_tree path new = changed_at (λ _. Some new) path

abbrev pub with_inserted : {V : Type 0} → List ℕ → ℕ → Rose V → Rose V → Option (Rose V)
with_inserted path i child = changed_at (inserted i child) path

abbrev pub without : {V : Type 0} → List ℕ → ℕ → Rose V → Option (Rose V)
without path i = changed_at (removed i) path

-- the values of a tree in preorder
abbrev pub preorder : {V : Type 0} → Rose V → List V
preorder {V} tree = fold-Rose V (List V) (λ r. r.node.header ∷ flat_map (λ values. values) r.node.items) tree

-- the values of these trees in preorder with the paths to them, where the first tree has that index below the path
abbrev pub paths_below : {V : Type 0} → List ℕ → ℕ → List (List ℕ → List (List ℕ × V)) → List (List ℕ × V)
paths_below path i [] = []
paths_below path i (from ∷ more) = from (path ++ i ∷ []) ++ paths_below path (suc i) more

-- the values of a tree in preorder with the paths to them, where that path leads to the tree
abbrev pub paths_from : {V : Type 0} → Rose V → List ℕ → List (List ℕ × V)
paths_from {V} tree =
    fold-Rose V (List ℕ → List (List ℕ × V)) (λ r path. (path, r.node.header) ∷ paths_below path 0 r.node.items) tree
