-- The items and the height of a tree, from its root node, and the invariants of that node.
use Rattle.std.specs.Prelude.{◌≡◌, ℕ, ◌+◌, ◌<◌, ◌≤◌, ◌^◌, Bool, true, cond, nat_eq, List, [], ◌∷◌, ◌++◌, drop, length}
use Rattle.std.specs.Prelude.{Option, None, Some}
use Rattle.std.specs.List.{All, flat_map, list_all}
use denote.Param.Weighed.{most}
use Rattle.sequence.specs.declared.tree.Node.{Node}
use Rattle.sequence.specs.declared.tree.Node.TheVariants.{Leaf, Branch}
use Rattle.sequence.specs.declared.tree.Child.{Child}

module _ {T L : Type 0} where
  abbrev pub items_in : List (Child T L) → List T
  items_in children = flat_map (λ c. c.tree.0) children

  -- whether these children are equally high
  abbrev pub are_level : List (Child T L) → Bool
  are_level [] = true
  are_level (c ∷ cs) = list_all (λ d. nat_eq d.tree.1 c.tree.1) cs

  -- one more than that of the highest child, and 2 ^ 64 more where two children differ
  abbrev pub height_in : List (Child T L) → ℕ
  height_in children = most (λ c. c.tree.1 + 1) children + cond (are_level children) 0 (2 ^ 64)

  -- the items of the tree of that first node, and its height
  abbrev pub seen : Node T L → List T × ℕ
  seen (Leaf items) = (items.items, 0)
  seen (Branch children) = (items_in children.items, height_in children.items)

  -- a copy of a node has its items or its children
  abbrev pub IsCopy : Node T L → Node T L → Type 0
  IsCopy (Leaf es) (Leaf copy) = copy.items ≡ es.items
  IsCopy (Branch cs) (Branch copy) = copy.items ≡ cs.items
  IsCopy (Leaf es) (Branch copy) = ⊥
  IsCopy (Branch cs) (Leaf copy) = ⊥

  -- a child under a node of that height, which has as many items as that makes of it at least
  pub record IsChild (height : ℕ) (child : Child T L) : Type 0 where
    pub counted : child.len ≡ length child.tree.0
    pub level : child.tree.1 + 1 ≡ height
    pub wide : 2 ^ child.tree.1 ≤ length child.tree.0

  -- the label of the first item
  abbrev pub first_label : (T → L) → List T → Option L
  first_label label_of [] = None
  first_label label_of (e ∷ es) = Some (label_of e)

module _ {T : Type 0} where
  abbrev pub items_under : Option (List T × ℕ) → List T
  items_under None = []
  items_under (Some tree) = tree.0

  -- no branch of the tree has two children that differ in height: all leaves are equally deep
  abbrev pub IsLevel : List T × ℕ → Type 0
  IsLevel tree = tree.1 < 2 ^ 64

  -- a tree that has more items than a child of its height has at least
  abbrev pub CanLose : List T × ℕ → Type 0
  CanLose tree = 2 ^ tree.1 < length tree.0

  -- items that a tree can count
  pub record IsList (es : List T) : Type 0 where
    pub some : 0 < length es
    pub room : length es < 2 ^ 64

module _ {T L : Type 0} (label_of : T → L) where
  -- the label of the child is that of the first item under it
  pub record IsLabelled (child : Child T L) : Type 0 where
    pub first : first_label label_of child.tree.0 ≡ Some child.label

  -- the children under a node, of which the first may have another label: no search looks at it
  pub record AreChildren (cs : List (Child T L)) : Type 0 where
    pub list : IsList (items_in cs)
    pub each : All (IsChild (height_in cs)) cs
    pub labels : All IsLabelled (drop 1 cs)

  -- children that stand under one node
  pub record AreLevel (cs : List (Child T L)) : Type 0 where
    pub height : ℕ
    pub each : All (IsChild height) cs
    pub labels : All IsLabelled (drop 1 cs)

  abbrev pub IsNode : Node T L → Type 0
  IsNode (Leaf items) = IsList items.items
  IsNode (Branch children) = AreChildren children.items

  -- the tree in two: what its first node keeps, which is still wide enough for a child, and a child with the rest
  pub record AreHalves (tree left : List T × ℕ) (right : Child T L) : Type 0 where
    pub items : left.0 ++ right.tree.0 ≡ tree.0
    pub height : left.1 ≡ tree.1
    pub child : IsChild (tree.1 + 1) right
    pub label : IsLabelled right
    pub wide : 2 ^ left.1 ≤ length left.0

  -- the children that are made of a whole tree: the level above it
  pub record AreParts (tree : List T × ℕ) (cs : List (Child T L)) : Type 0 where
    pub items : items_in cs ≡ tree.0
    pub height : height_in cs ≡ tree.1 + 1
    pub children : AreChildren cs

  -- the items of a tree can stand behind those of one that is as high, and that is the label of the first of them
  pub record Follows (tree next : List T × ℕ) (label : L) : Type 0 where
    pub list : IsList (tree.0 ++ next.0)
    pub level : tree.1 ≡ next.1
    pub first : first_label label_of next.0 ≡ Some label

  -- other children with the same items, which are as high
  pub record StandFor (old new : List (Child T L)) : Type 0 where
    pub items : items_in new ≡ items_in old
    pub height : height_in new ≡ height_in old
    pub children : AreChildren new

  -- a whole tree with these items has so many nodes on each way down
  pub record IsDeep (es : List T) (depth : ℕ) : Type 0 where
    pub root : Node T L
    pub whole : IsNode root
    pub items : (seen root).0 ≡ es
    pub nodes : (seen root).1 + 1 ≡ depth

  -- the children of a branch in two at a place among the items
  pub record AreCut (place : ℕ) (old new : List (Child T L)) (right : Child T L) : Type 0 where
    pub halves : AreHalves (items_in old, height_in old) (items_in new, height_in new) right
    pub kept : length (items_in new) ≡ place

  -- a full tree in two, each of which can lose an item, or a tree as it was
  abbrev pub Splits : List T × ℕ → List T × ℕ → Option (Child T L) → Type 0
  Splits old new None = new ≡ old
  Splits old new (Some right) = AreHalves old new right × (CanLose new × CanLose right.tree)
