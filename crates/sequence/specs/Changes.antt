-- The effect of a closure on one item of a list, and of a removal on a child or a tree.
use Rattle.std.specs.Prelude.{◌≡◌, ℕ, ◌+◌, ◌<◌, Bool, IsTrue, List, [], Some, length, slice_get, slice_set}
use Rattle.std.specs.Borrow.{MutBor}
use Rattle.std.specs.Fn.{Once, FnOnceReturnsAtMut}
use Rattle.sequence.specs.declared.tree.Child.{Child}
use Rattle.sequence.specs.declared.tree.ends.End.{End}
use Rattle.sequence.specs.Nodes.{CanLose, IsChild, IsLabelled}
use Rattle.sequence.specs.Spots.{place_at, spliced}

module _ {F T R : Type 0} (g : Once F (MutBor T × Unit {0}) (R × (MutBor T × Unit {0}))) (change : F) where
  -- its call on the item at that index returned r, and the list has there the item that the call left
  pub record ChangesItem (at : ℕ) (old new : List T) (r : R) : Type 0 where
    pub before : T
    pub after : T
    pub found : slice_get old at ≡ Some before
    pub called : FnOnceReturnsAtMut g change before r after
    pub items : new ≡ slice_set old at after

  -- a call on that item leaves its label as it is
  abbrev pub KeepsLabel : {L : Type 0} → (T → L) → T → Type 0
  KeepsLabel label_of before = (after : T) (r : R) → FnOnceReturnsAtMut g change before r after
      → label_of after ≡ label_of before

-- the child after that item was taken out of it, with a right label if that was asked for
pub record IsLess {T L : Type 0} (label_of : T → L) (labelled : Bool) (at : ℕ) (old new : Child T L) (item : T)
    : Type 0 where
  pub found : slice_get old.tree.0 at ≡ Some item
  pub items : new.tree.0 ≡ spliced at 1 [] old.tree.0
  pub child : IsChild (old.tree.1 + 1) new
  pub label : IsTrue labelled → IsLabelled label_of old → IsLabelled label_of new

-- the tree after its item at that end was taken out, which it had to spare if a branch with so few children blocks that
pub record IsPopped {T : Type 0} (end : End) (least : ℕ) (old new : List T × ℕ) (item : T) : Type 0 where
  pub found : slice_get old.0 (place_at end (length old.0)) ≡ Some item
  pub left : new ≡ (spliced (place_at end (length old.0)) 1 [] old.0, old.1)
  pub spare : 1 < least → CanLose old
