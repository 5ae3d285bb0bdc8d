-- The children that a node becomes, of which the last is split off first.
use Rattle.std.proofs.Common.{◌≡◌, ◌+◌, ◌<◌, ◌^◌, ℕ, List, [], ◌∷◌, ◌++◌, length, reverse, ap, sym, ◌∙◌, subst}
use Rattle.std.proofs.Common.{append_assoc, arith}
use Rattle.std.proofs.lemmas.List.{reverse-append}
use Rattle.std.proofs.lemmas.List.Elements.{All-cons, All-drop}
use Rattle.std.specs.List.{All}
use Rattle.sequence.specs.declared.tree.Child.{Child}
use Rattle.sequence.specs.Nodes.{AreParts, IsChild, IsLabelled, IsList, items_in}
use Rattle.sequence.proofs.Nodes.Children.{children_are, height_is}

module _ {T L : Type 0} where
  -- the items are those in front and those under the children, the last of which stands first
  pub record IsBefore (label_of : T → L) (h : ℕ) (all front : List T) (cs : List (Child T L)) : Type 0 where
    pub each : All (IsChild h) (reverse cs)
    pub labels : All (IsLabelled label_of) (reverse cs)
    pub items : front ++ items_in (reverse cs) ≡ all

  -- items under some children are under a first one
  pub some_first : (cs : List (Child T L)) → 0 < length (items_in cs) → 0 < length cs
  some_first [] p = p
  some_first (c ∷ cs) p = omega arith

module _ {T L : Type 0} {label_of : T → L} where
  -- one more child takes over the back of what stands in front
  pub parts_more : (h : ℕ) (all front left : List T) (cs : List (Child T L)) (c : Child T L)
      → IsBefore label_of h all front cs → IsChild h c → IsLabelled label_of c → left ++ c.tree.0 ≡ front
      → IsBefore label_of h all left (cs ++ c ∷ [])
  parts_more h all front left cs c are child label is =
      let turned : reverse (cs ++ c ∷ []) ≡ c ∷ reverse cs = reverse-append cs (c ∷ []) in
      record {
        each = subst (All (IsChild h)) (sym turned) (All-cons (IsChild h) c (reverse cs) child are.each);
        labels = subst (All (IsLabelled label_of)) (sym turned)
            (All-cons (IsLabelled label_of) c (reverse cs) label are.labels);
        items = ap (λ (xs : List (Child T L)). left ++ items_in xs) turned
            ∙ sym (append_assoc left c.tree.0 (items_in (reverse cs)))
            ∙ ap (λ (es : List T). es ++ items_in (reverse cs)) is ∙ are.items;
      }

  -- all of them make a branch
  pub parts_all : (tree : List T × ℕ) (cs : List (Child T L)) → IsList tree.0
      → IsBefore label_of (tree.1 + 1) tree.0 [] cs → AreParts label_of tree (reverse cs)
  parts_all tree cs list are =
      let h = tree.1 + 1 in
      let some : 0 < length (reverse cs) = some_first (reverse cs)
      (subst (λ (es : List T). 0 < length es) (sym are.items) list.some) in
      record {
        items = are.items;
        height = height_is h (reverse cs) are.each some;
        children = children_are h (reverse cs) are.each some
            (subst (λ (es : List T). length es < 2 ^ 64) (sym are.items) list.room)
            (All-drop (IsLabelled label_of) 1 (reverse cs) are.labels);
      }
