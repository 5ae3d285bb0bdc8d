-- A node after items were put in place of others under one of its children.
use Rattle.std.proofs.Common.{◌≡◌, ◌+◌, ◌<◌, ◌≤◌, ◌^◌, ℕ, List, ◌++◌, length, take, drop, get_or}
use Rattle.std.proofs.Common.{set, refl, ap, sym, ◌∙◌, subst, arith, length-set}
use Rattle.std.specs.Prelude.{Result, Ok, Err, OnOk, OnErr}
use Rattle.std.specs.List.{All}
use Rattle.std.proofs.lemmas.List.{set-get_or}
use Rattle.std.proofs.lemmas.List.Elements.{All-set}
use Rattle.sequence.specs.declared.tree.Child.{Child}
use Rattle.sequence.specs.Nodes.{AreChildren, IsChild, IsLabelled, StandFor, height_in, items_in}
use Rattle.sequence.specs.Spots.{spliced}
use Rattle.sequence.proofs.Nodes.Children.{children_are, height_is, items_set, items_split, length-split}
use Rattle.sequence.proofs.Nodes.Labelled.{behind_set}
use Rattle.sequence.proofs.Lists.Spliced.{length-spliced, splice_between}

module _ {T L : Type 0} {label_of : T → L} where
  -- what stands for children that stand for others stands for those
  pub stand_on : (a b c : List (Child T L)) → StandFor label_of a b → StandFor label_of b c → StandFor label_of a c
  stand_on a b c one two = record {
    items = two.items ∙ one.items;
    height = two.height ∙ one.height;
    children = two.children;
  }

  pub stand_itself : (cs : List (Child T L)) → AreChildren label_of cs → StandFor label_of cs cs
  stand_itself cs are = record { items = refl; height = refl; children = are }

  module _ (cs : List (Child T L)) (i : ℕ) (d : Child T L) (are : AreChildren label_of cs) (h : i < length cs)
      (is : d ≡ get_or cs i d) where
    -- what holds of a child of the node
    pub child_here : IsChild (d.tree.1 + 1) d
    child_here =
        let here = subst (IsChild (height_in cs)) (sym is) (are.each i d h) in
        subst (λ (h : ℕ). IsChild h d) (sym here.level) here

    -- its items are no more than all
    pub child_within : length d.tree.0 ≤ length (items_in cs)
    child_within = omega (arith, length-split cs i d h, ap (λ (c : Child T L). length c.tree.0) is)

    -- a child that a call left as it was stands where it stood
    pub left_as : (new : Child T L) → new ≡ d → StandFor label_of cs (set cs i new)
    left_as new same =
        subst (StandFor label_of cs) (sym (ap (λ (c : Child T L). set cs i c) (same ∙ is) ∙ set-get_or cs i d))
        (stand_itself cs are)

    -- and so does one whose tree has the same items and height
    pub left_in : (new : List T × ℕ) → new.0 ≡ d.tree.0 → new.1 ≡ d.tree.1
        → StandFor label_of cs (set cs i (record d { tree = new }))
    left_in new items level =
        let same : new ≡ d.tree = λ j. (items j, level j) in
        left_as (record d { tree = new }) (ap (λ (t : List T × ℕ). record d { tree = t }) same)

    module _ (new : Child T L) (child : IsChild (d.tree.1 + 1) new) (label : 0 < i → IsLabelled label_of new) where
      -- with another of its level in its place, all are on one level
      each_set : All (IsChild (height_in cs)) (set cs i new)
      each_set =
          let level = ap (λ (c : Child T L). c.tree.1 + 1) is ∙ (are.each i d h).level in
          All-set (IsChild (height_in cs)) cs i new (subst (λ (h : ℕ). IsChild h new) level child) are.each

      -- the node is as high
      pub height_set : height_in (set cs i new) ≡ height_in cs
      height_set = height_is (height_in cs) (set cs i new) each_set (omega (arith, h, length-set cs i new))

      -- and whole, if a tree can count its items
      pub children_set : length (items_in (set cs i new)) < 2 ^ 64 → AreChildren label_of (set cs i new)
      children_set room =
          children_are (height_in cs) (set cs i new) each_set (omega (arith, h, length-set cs i new)) room
          (behind_set (IsLabelled label_of) cs i new are.labels label)

      -- with the same items it stands in for the child
      pub stands_in : new.tree.0 ≡ d.tree.0 → StandFor label_of cs (set cs i new)
      stands_in same =
          let items : items_in (set cs i new) ≡ items_in cs =
          items_set cs i new h
          ∙ ap (λ (es : List T). items_in (take i cs) ++ (es ++ items_in (drop (i + 1) cs)))
          (same ∙ ap (λ (c : Child T L). c.tree.0) is)
          ∙ sym (items_split cs i d h) in
          record {
            items = items;
            height = height_set;
            children = children_set (subst (λ (es : List T). length es < 2 ^ 64) (sym items) are.list.room);
          }

      -- the node has the new items if the child has
      pub items_spliced : (at p gone : ℕ) (more : List T) → at ≡ length (items_in (take i cs)) + p
          → p + gone ≤ length d.tree.0 → new.tree.0 ≡ spliced p gone more d.tree.0
          → items_in (set cs i new) ≡ spliced at gone more (items_in cs)
      items_spliced at p gone more place inside put =
          let m = (get_or cs i d).tree.0 in
          let l = items_in (take i cs) in
          let r = items_in (drop (i + 1) cs) in
          items_set cs i new h
          ∙ ap (λ (es : List T). l ++ (es ++ r)) (put ∙ ap (λ (c : Child T L). spliced p gone more c.tree.0) is)
          ∙ sym (splice_between l m r at p gone more place
          (omega (arith, inside, ap (λ (c : Child T L). length c.tree.0) is)))
          ∙ ap (λ (es : List T). spliced at gone more es) (sym (items_split cs i d h))

  module _ (old cs : List (Child T L)) (i : ℕ) (d new : Child T L) (same : StandFor label_of old cs)
      (h : i < length cs) (is : d ≡ get_or cs i d) (child : IsChild (d.tree.1 + 1) new)
      (label : 0 < i → IsLabelled label_of new) (at p gone : ℕ) (more : List T)
      (place : at ≡ length (items_in (take i cs)) + p) (inside : p + gone ≤ length d.tree.0) where
    -- the node after the call on that child, whose answer is r
    pub record IsPut {A E : Type 0} (r : Result A E) : Type 0 where
      pub items : OnOk r (items_in (set cs i new) ≡ spliced at gone more (items_in old))
      pub height : height_in (set cs i new) ≡ height_in old
      pub children : AreChildren label_of (set cs i new)
      pub refused : OnErr r (items_in (set cs i new) ≡ items_in old)

    pub put_under : {A E : Type 0} (r : Result A E) → OnOk r (new.tree.0 ≡ spliced p gone more d.tree.0)
        → OnErr r (new.tree.0 ≡ d.tree.0) → length (items_in old) + length more < 2 ^ 64 + gone → IsPut r
    put_under (Ok n) put refused room =
        let are = same.children in
        let items = items_spliced cs i d are h is new child label at p gone more place inside put in
        let within : at + gone ≤ length (items_in cs) = omega (
          arith,
          place,
          inside,
          length-split cs i d h,
          ap (λ (c : Child T L). length c.tree.0) is,
        ) in
        let count : length (items_in (set cs i new)) < 2 ^ 64 = omega (
          arith,
          ap (length {A = T}) items,
          length-spliced at gone more (items_in cs) within,
          ap (length {A = T}) same.items,
          room,
        ) in
        record {
          items = items ∙ ap (λ (es : List T). spliced at gone more es) same.items;
          height = height_set cs i d are h is new child label ∙ same.height;
          children = children_set cs i d are h is new child label count;
          refused = tt;
        }
    put_under (Err e) put refused room =
        let done = stand_on old cs (set cs i new) same (stands_in cs i d same.children h is new child label refused) in
        record { items = tt; height = done.height; children = done.children; refused = done.items }
