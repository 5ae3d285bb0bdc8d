-- A piece that is inserted into a tree: an item or a tree.
use Rattle.std.specs.Prelude.{◌≡◌, ℕ, ◌+◌, ◌-◌, ◌<◌, ◌≤◌, ◌⊎◌, List, [], ◌∷◌, Option, None, Some, length}
use Rattle.sequence.specs.declared.tree.Child.{Child}
use Rattle.sequence.specs.declared.tree.insert.Piece.{Piece}
use Rattle.sequence.specs.declared.tree.insert.Piece.TheVariants.{Item, Part}
use Rattle.sequence.specs.Nodes.{IsChild, IsLabelled}

module _ {T L : Type 0} where
  abbrev pub items_of : Piece T L → List T
  items_of (Item item) = item ∷ []
  items_of (Part child below) = child.tree.0

  abbrev pub part_of : Piece T L → Option (Child T L)
  part_of (Item item) = None
  part_of (Part child below) = Some child

  -- a tree that is so much lower can be put before all items or behind all
  pub record IsPart (label_of : T → L) (part : Child T L) (below place : ℕ) (tree : List T × ℕ) : Type 0 where
    pub whole : IsChild (part.tree.1 + 1) part
    pub label : IsLabelled label_of part
    pub lower : 0 < below
    pub level : part.tree.1 + below ≡ tree.1
    pub edge : (place ≡ 0) ⊎ (place ≡ length tree.0)

  -- the piece can be put in at that place
  abbrev pub Fits : (T → L) → Piece T L → ℕ → List T × ℕ → Type 0
  Fits label_of (Item item) place tree = Unit {0}
  Fits label_of (Part child below) place tree = IsPart label_of child below place tree

  -- a tree says how many items it has
  abbrev pub Counts : Piece T L → Type 0
  Counts (Item item) = Unit {0}
  Counts (Part child below) = child.len ≡ length child.tree.0

  -- the second is the first for one level below
  abbrev pub GoesOn : Piece T L → Piece T L → Type 0
  GoesOn (Item item) next = next ≡ Item item
  GoesOn (Part child below) next = (1 < below) × (next ≡ Part child (below - 1))

  -- the piece is that child, and belongs here
  abbrev pub IsHere : Piece T L → Child T L → Type 0
  IsHere (Item item) child = ⊥
  IsHere (Part part below) child = (below ≤ 1) × (child ≡ part)
