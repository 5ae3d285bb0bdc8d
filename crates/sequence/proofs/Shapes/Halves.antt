-- The parts of what a node has, and nodes that are made of them.
use Rattle.std.proofs.Common.{◌≡◌, ◌+◌, ◌-◌, ◌<◌, ◌≤◌, ◌^◌, ℕ, List, [], ◌∷◌, ◌++◌, length, take, drop, get_or}
use Rattle.std.proofs.Common.{ap, sym, ◌∙◌}
use Rattle.std.proofs.Common.{subst, arith, take-append-drop, length-append, length-take, length-drop, refl, append-nil}
use Rattle.std.specs.List.{All}
use Rattle.std.specs.Prelude.{Some}
use Rattle.std.proofs.lemmas.List.{drop-drop, drop_more}
use Rattle.std.proofs.lemmas.List.Elements.{All-take, All-drop, All-append, All-cons, All-nil}
use Rattle.sequence.specs.declared.tree.Child.{Child}
use Rattle.sequence.specs.Nodes.{AreChildren, AreHalves, AreLevel, CanLose, IsChild, IsLabelled, IsList, StandFor}
use Rattle.sequence.specs.Nodes.{first_label, height_in, items_in}
use Rattle.sequence.proofs.Nodes.Children.{children_are, height_is, items_append, length-parts, two_parts}
use Rattle.sequence.proofs.Nodes.Labelled.{all_behind, at_behind, behind_append, behind_drop, behind_take, first_drop}
use Rattle.sequence.proofs.Nodes.Labelled.{first_in}
use Rattle.sequence.proofs.Nodes.Wide.{three_children}

module _ {T L : Type 0} where
  -- a child with that tree
  pub child_is : (t : List T × ℕ) (new : Child T L) → new.tree ≡ t → new.len ≡ length t.0 → 2 ^ t.1 ≤ length t.0
      → IsChild (t.1 + 1) new
  child_is t new is len wide = record {
    counted = len ∙ ap (λ (t : List T × ℕ). length t.0) (sym is);
    level = ap (λ (t : List T × ℕ). t.1 + 1) is;
    wide = subst (λ (t : List T × ℕ). 2 ^ t.1 ≤ length t.0) (sym is) wide;
  }

  -- a child that keeps the first half
  pub left_is : {label_of : T → L} (old right new : Child T L) → IsChild (old.tree.1 + 1) old
      → AreHalves label_of old.tree new.tree right
      → new.len ≡ old.len - right.len → IsChild (old.tree.1 + 1) new
  left_is old right new child halves len = record {
    counted = omega (
      arith,
      len,
      child.counted,
      halves.child.counted,
      ap (length {A = T}) halves.items,
      length-append new.tree.0 right.tree.0,
    );
    level = ap (λ (n : ℕ). n + 1) halves.height;
    wide = halves.wide;
  }

module _ {T : Type 0} where
  -- the front of a list, and its back
  pub list_take : (es : List T) (n : ℕ) → IsList es → 0 < n → n ≤ length es → IsList (take n es)
  list_take es n list p h = record {
    some = omega (arith, p, h, length-take n es);
    room = omega (arith, list.room, length-take n es);
  }

  pub list_drop : (es : List T) (n : ℕ) → IsList es → n < length es → IsList (drop n es)
  list_drop es n list h = record {
    some = omega (arith, h, length-drop n es);
    room = omega (arith, list.room, length-drop n es);
  }

module _ {T L : Type 0} {label_of : T → L} where
  module _ (cs : List (Child T L)) (n : ℕ) (are : AreChildren label_of cs) where
    -- the front of the children of a node are those of one
    pub children_take : 0 < n → n ≤ length cs → AreChildren label_of (take n cs)
    children_take p h =
        children_are (height_in cs) (take n cs) (All-take (IsChild (height_in cs)) n cs are.each)
        (omega (arith, p, h, length-take n cs)) (omega (arith, are.list.room, length-parts cs n))
        (behind_take (IsLabelled label_of) n cs are.labels)

    -- and so is the back
    pub children_drop : n < length cs → AreChildren label_of (drop n cs)
    children_drop h =
        children_are (height_in cs) (drop n cs) (All-drop (IsChild (height_in cs)) n cs are.each)
        (omega (arith, h, length-drop n cs)) (omega (arith, are.list.room, length-parts cs n))
        (behind_drop (IsLabelled label_of) n cs are.labels)

    -- the front is as high
    pub height_take : 0 < n → n ≤ length cs → height_in (take n cs) ≡ height_in cs
    height_take p h =
        height_is (height_in cs) (take n cs) (All-take (IsChild (height_in cs)) n cs are.each)
        (omega (arith, p, h, length-take n cs))

    -- and so is the back
    pub height_drop : n < length cs → height_in (drop n cs) ≡ height_in cs
    height_drop h =
        height_is (height_in cs) (drop n cs) (All-drop (IsChild (height_in cs)) n cs are.each)
        (omega (arith, h, length-drop n cs))

    -- both stand on one level
    pub level_take : AreLevel label_of (take n cs)
    level_take = record {
      height = height_in cs;
      each = All-take (IsChild (height_in cs)) n cs are.each;
      labels = behind_take (IsLabelled label_of) n cs are.labels;
    }

    pub level_drop : AreLevel label_of (drop n cs)
    level_drop = record {
      height = height_in cs;
      each = All-drop (IsChild (height_in cs)) n cs are.each;
      labels = behind_drop (IsLabelled label_of) n cs are.labels;
    }

  -- a tree as the only child of another one
  pub only_is : (h : ℕ) (c : Child T L) → IsChild h c → length c.tree.0 < 2 ^ 64
      → AreChildren label_of (c ∷ [])
  only_is h c child room =
      children_are h (c ∷ []) (All-cons (IsChild h) c [] child (All-nil (IsChild h))) (omega arith)
      (subst (λ (es : List T). length es < 2 ^ 64) (sym (append-nil c.tree.0)) room)
      (All-nil (IsLabelled label_of))

  -- the halves of a leaf
  pub leaves_are : (es : List T) (n : ℕ) (d : T) (r : Child T L) → 0 < n → n < length es
      → r.len ≡ length (drop n es) → r.tree ≡ (drop n es, 0) → r.label ≡ label_of (get_or es n d)
      → AreHalves label_of (es, 0) (take n es, 0) r
  leaves_are es n d r p h len is label = record {
    items = ap (λ (t : List T × ℕ). take n es ++ t.0) is ∙ take-append-drop n es;
    height = refl;
    child = child_is (drop n es, 0) r is len (omega (arith, h, length-drop n es));
    label = record {
      first = ap (λ (t : List T × ℕ). first_label label_of t.0) is ∙ first_drop label_of es n d (omega (arith, h))
          ∙ ap (λ (l : L). Some l) (sym label);
    };
    wide = omega (arith, p, h, length-take n es);
  }

  module _ (cs : List (Child T L)) (n : ℕ) (are : AreChildren label_of cs) (p : 0 < n) (h : n < length cs) where
    -- the halves of a branch
    pub branches_are : (d r : Child T L)
        → (2 ^ height_in cs ≤ length (items_in (take n cs))) × (2 ^ height_in cs ≤ length (items_in (drop n cs)))
        → r.len ≡ length (items_in (drop n cs))
        → r.tree ≡ (items_in (drop n cs), height_in (drop n cs)) → r.label ≡ (get_or cs n d).label
        → AreHalves label_of (items_in cs, height_in cs) (items_in (take n cs), height_in (take n cs)) r
    branches_are d r sides len is label =
        let low = height_take cs n are p (omega (arith, h)) in
        let high = height_drop cs n are h in
        let here = get_or cs n d in
        record {
          items = ap (λ (t : List T × ℕ). items_in (take n cs) ++ t.0) is ∙ sym (two_parts cs n);
          height = low;
          child = subst (λ (h : ℕ). IsChild (h + 1) r) high
              (child_is (items_in (drop n cs), height_in (drop n cs)) r is len
              (subst (λ (h : ℕ). 2 ^ h ≤ length (items_in (drop n cs))) (sym high) sides.1));
          label = record {
            first = ap (λ (t : List T × ℕ). first_label label_of t.0) is
                ∙ ap (λ (xs : List (Child T L)). first_label label_of (items_in xs)) (drop_more cs n d h)
                ∙ first_in label_of here.tree.0 (items_in (drop (n + 1) cs)) here.label
                (at_behind (IsLabelled label_of) cs n d are.labels p h).first
                ∙ ap (λ (l : L). Some l) (sym label);
          };
          wide = subst (λ (h : ℕ). 2 ^ h ≤ length (items_in (take n cs))) (sym low) sides.0;
        }

  module _ (cs : List (Child T L)) (n : ℕ) (are : AreChildren label_of cs) (p : 2 < n) (q : n + 2 < length cs) where
    -- three children on either side have more items than a child of that height has at least
    pub sides : (2 ^ height_in cs < length (items_in (take n cs))) × (2 ^ height_in cs < length (items_in (drop n cs)))
    sides =
        let h = height_in cs in (
          three_children h (take n cs) (All-take (IsChild h) n cs are.each) (omega (arith, length-take n cs)),
          three_children h (drop n cs) (All-drop (IsChild h) n cs are.each) (omega (arith, length-drop n cs)),
        )

    -- so both halves can lose an item
    pub both_spare : (new : List (Child T L)) (right : Child T L) → new ≡ take n cs
        → AreHalves label_of (items_in cs, height_in cs) (items_in new, height_in new) right
        → CanLose {T = T} (items_in new, height_in new) × CanLose right.tree
    both_spare new right kept halves =
        let front = ap (λ (xs : List (Child T L)). length (items_in xs)) kept in
        let high : right.tree.1 ≡ height_in cs = omega (arith, halves.child.level) in
        let sum = ap (length {A = T}) halves.items in (
          subst (λ (h : ℕ). 2 ^ h < length (items_in new)) (sym halves.height) (omega (arith, sides.0, front)),
          subst (λ (h : ℕ). 2 ^ h < length right.tree.0) (sym high)
              (omega (arith, sides.1, front, sum, length-append (items_in new) right.tree.0, length-parts cs n)),
        )

  -- children in place of k, with the items of those, stand for all
  pub replaced : (cs ns : List (Child T L)) (i k : ℕ) → AreChildren label_of cs → All (IsChild (height_in cs)) ns
      → 0 < length ns → 0 < k → items_in ns ≡ items_in (take k (drop i cs)) → All (IsLabelled label_of) (drop 1 ns)
      → (0 < i → All (IsLabelled label_of) ns) → StandFor label_of cs (take i cs ++ (ns ++ drop (i + k) cs))
  replaced cs ns i k are each some gone is labels first =
      let P = IsChild (height_in cs) in
      let rest = drop k (drop i cs) in
      let new = take i cs ++ (ns ++ rest) in
      let all : All P new =
      All-append P (take i cs) (ns ++ rest) (All-take P i cs are.each)
      (All-append P ns rest each (All-drop P k (drop i cs) (All-drop P i cs are.each))) in
      let same : items_in new ≡ items_in cs =
      items_append (take i cs) (ns ++ rest)
      ∙ ap (λ (x : List T). items_in (take i cs) ++ x) (items_append ns rest
      ∙ ap (λ (x : List T). x ++ items_in rest) is ∙ sym (two_parts (drop i cs) k))
      ∙ sym (two_parts cs i) in
      let wide : 0 < length new = omega (arith, some, length-append (take i cs) (ns ++ rest), length-append ns rest) in
      let Q = IsLabelled label_of in
      let front : 0 < length (take i cs) → 0 < i = λ some. omega (arith, some, length-take i cs) in
      let behind : All Q rest = subst (All Q) (sym (drop-drop k i cs))
      (all_behind Q (i + k) cs (omega (arith, gone)) are.labels) in
      let right : All Q (drop 1 new) =
      behind_append Q (take i cs) (ns ++ rest) (behind_take Q i cs are.labels)
      (behind_append Q ns rest labels (All-drop Q 1 rest behind) (λ _. behind))
      (λ some. All-append Q ns rest (first (front some)) behind) in
      subst (λ (xs : List (Child T L)). StandFor label_of cs (take i cs ++ (ns ++ xs))) (drop-drop k i cs) record {
        items = same;
        height = height_is (height_in cs) new all wide;
        children = children_are (height_in cs) new all wide
            (subst (λ (x : List T). length x < 2 ^ 64) (sym same) are.list.room) right;
      }
