-- The values of a tree with their paths, one step down.
use Rattle.std.proofs.Common.{◌≡◌, ◌≤◌, ℕ, suc, ◌+◌, Bor, List, [], ◌∷◌, ◌++◌, length, map, drop, ap, sym, add-one, ◌∙◌}
use Rattle.std.proofs.Math.Seq.{drop-cons}
use Rattle.std.proofs.lemmas.List.{drop_all}
use Rattle.std.proofs.lemmas.Option.{get_or_from_slice_get, slice_get-get_or, slice_get_within}
use Rattle.std.specs.Prelude.{None, Some, slice_get}
use Rattle.std.specs.Slice.{IsItemAt}
use Rattle.rose_undo.specs.declared.rose.Rose.{Rose, fold_out-Rose}
use Rattle.rose_undo.specs.declared.rose.walk.Left.{Left}
use Rattle.rose_undo.specs.Roses.{children, paths_below, paths_from, root}

-- what a slice has at a place
module _ {X : Type 0} (xs : List X) (i : ℕ) where
  pub got_none : IsItemAt xs i None → length xs ≤ i
  got_none got = got.3

  pub got_some : (x : Bor X) → IsItemAt xs i (Some x) → slice_get xs i ≡ Some x.now
  got_some x got = slice_get-get_or xs i x.now got.3.0 ∙ ap Some (sym got.1)

module _ {V : Type 0} (path : List ℕ) (tree : Rose V) where
  -- the values below the children from that number on
  abbrev pub paths_in : ℕ → List (List ℕ × V)
  paths_in i = paths_below path i (map paths_from (drop i (children tree)))

  pub paths_out : paths_from tree path ≡ (path, root tree) ∷ paths_in 0
  paths_out =
      ap (λ (from : List ℕ → List (List ℕ × V)). from path) (fold_out-Rose V (List ℕ → List (List ℕ × V))
      (λ r path. (path, r.node.header) ∷ paths_below path 0 r.node.items) tree)

  pub none_left : (i : ℕ) → length (children tree) ≤ i → paths_in i ≡ []
  none_left i past = ap (λ trees. paths_below path i (map paths_from trees)) (drop_all i (children tree) past)

module _ {V : Type 0} where
  -- the values that are left of a tree
  abbrev pub paths_left : Left V → List (List ℕ × V)
  paths_left e = paths_in e.path.items e.tree.now e.child

  pub child_left : (path path_below : List ℕ) (tree : Rose V) (i : ℕ) (child : Rose V)
      → slice_get (children tree) i ≡ Some child → path_below ≡ path ++ i ∷ []
      → paths_in path tree i ≡ (path_below, root child) ∷ (paths_in path_below child 0 ++ paths_in path tree (i + 1))
  child_left path path_below tree i child is longer =
      let trees = children tree in
      let first = drop-cons trees i child (slice_get_within trees i child is)
      ∙ ap (λ t. t ∷ drop (suc i) trees) (get_or_from_slice_get trees i child child is) in
      rw (longer, add-one, first)
      (ap (λ paths. paths ++ paths_in path tree (suc i)) (paths_out (path ++ i ∷ []) child))
