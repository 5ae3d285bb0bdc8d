-- What is read of a tree that was made, and of a text whose lines stand right below the root.
use Rattle.std.proofs.Common.{◌≡◌, ◌∙◌, ℕ, suc, List, ◌∷◌, ◌++◌, ap, ap₂, drop, map, sym, take}
use Rattle.std.proofs.lemmas.List.{map-append, map-set, drop-map, take-map}
use Rattle.rose_undo.specs.declared.rose.Rose.{Rose, out-roll-Rose}
use Rattle.rose_undo.specs.Roses.{branch, children, root}

module _ {V : Type 0} (v : V) (trees : List (Rose V)) where
  pub root_branch : root (branch v trees) ≡ v
  root_branch = ap (λ r. r.node.header) (out-roll-Rose V (record { node = record { header = v; items = trees } }))

  pub children_branch : children (branch v trees) ≡ trees
  children_branch = ap (λ r. r.node.items) (out-roll-Rose V (record { node = record { header = v; items = trees } }))

-- the values after an insertion, and after a removal
module _ {X Y : Type 0} (f : X → Y) where
  pub map-insert : (xs : List X) (i : ℕ) (x : X)
      → map f (take i xs ++ x ∷ drop i xs) ≡ take i (map f xs) ++ f x ∷ drop i (map f xs)
  map-insert xs i x =
      map-append f (take i xs) (x ∷ drop i xs)
      ∙ ap₂ (λ before after. before ++ f x ∷ after) (sym (take-map f i xs)) (sym (drop-map f i xs))

  pub map-remove : (xs : List X) (i : ℕ)
      → map f (take i xs ++ drop (suc i) xs) ≡ take i (map f xs) ++ drop (suc i) (map f xs)
  map-remove xs i =
      map-append f (take i xs) (drop (suc i) xs)
      ∙ ap₂ (λ before after. before ++ after) (sym (take-map f i xs)) (sym (drop-map f (suc i) xs))

-- the tree that was made
pub ruleset making = (root_branch, children_branch)

-- and a change of what stands right below the root
pub ruleset below = (root_branch, children_branch, map-insert, map-remove, map-set)
