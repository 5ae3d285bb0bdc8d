-- A copy of a node is as good.
use Rattle.std.proofs.Common.{◌≡◌, ◌⊎◌, inl, inr, ℕ, List, refl, ap, sym, subst, ◌∙◌}
use Rattle.sequence.specs.declared.tree.Node.{Node}
use Rattle.sequence.specs.declared.tree.Node.TheVariants.{Leaf, Branch}
use Rattle.sequence.specs.declared.tree.Child.{Child}
use Rattle.sequence.specs.Nodes.{AreChildren, IsCopy, IsList, IsNode, seen, items_in, height_in}

module _ {T L : Type 0} where
  -- a node is a copy of itself
  copy_itself : (node : Node T L) → IsCopy node node
  copy_itself (Leaf es) = refl
  copy_itself (Branch cs) = refl

  -- a copy has the items and the height
  pub seen_copy : (node copy : Node T L) → IsCopy node copy → seen copy ≡ seen node
  seen_copy (Leaf es) (Leaf copy) is = ap (λ es. (es, 0)) is
  seen_copy (Branch cs) (Branch copy) is = ap (λ (cs : List (Child T L)). (items_in cs, height_in cs)) is
  seen_copy (Leaf es) (Branch copy) is = absurd is
  seen_copy (Branch cs) (Leaf copy) is = absurd is

module _ {T L : Type 0} (label_of : T → L) where
  -- and is whole
  pub whole_copy : (node copy : Node T L) → IsNode label_of node → IsCopy node copy → IsNode label_of copy
  whole_copy (Leaf es) (Leaf copy) whole is = subst IsList (sym is) whole
  whole_copy (Branch cs) (Branch copy) whole is = subst (AreChildren label_of) (sym is) whole
  whole_copy (Leaf es) (Branch copy) whole is = absurd is
  whole_copy (Branch cs) (Leaf copy) whole is = absurd is

  -- what `make_mut` gives of a whole node: one that is whole too, and has the same items and height
  pub record IsMade (tree : List T × ℕ) (new : Node T L) : Type 0 where
    pub whole : IsNode label_of new
    pub same : seen new ≡ tree

  -- the node itself, or a copy of it
  pub made : {C : Type 0} (tree : List T × ℕ) (old new : Node T L) → IsNode label_of old → seen old ≡ tree
      → (new ≡ old) ⊎ (C → IsCopy old new) → C → IsMade tree new
  made tree old new whole same either c =
      let copy : IsCopy old new = elim either [
        | inl kept ↦ subst (IsCopy old) (sym kept) (copy_itself old)
        | inr copy ↦ copy c
      ] in
      record { whole = whole_copy old new whole copy; same = seen_copy old new copy ∙ same }
