-- A branch after an item was changed under one of its children.
use Rattle.std.proofs.Common.{◌≡◌, ◌+◌, ◌-◌, ◌<◌, ◌≤◌, ◌^◌, ℕ, List, [], ◌∷◌, length, take, drop}
use Rattle.std.proofs.Common.{get_or, set, ap, ap₂, sym, ◌∙◌}
use Rattle.std.proofs.Common.{subst, arith, inl, inr, length-set, refl, true≢false}
use Rattle.std.specs.Prelude.{◌⊎◌, Bool, IsTrue, Option, None, Some, Result, Ok, Err, MatchResult, false, nat_lt}
use Rattle.std.specs.Prelude.{slice_get}
use Rattle.std.specs.List.{remove}
use Rattle.std.specs.Borrow.{MutBor}
use Rattle.std.specs.Fn.{Once}
use Rattle.std.specs.Option.{ForSome}
use Rattle.std.proofs.lemmas.Bool.{lt-ltb}
use Rattle.std.proofs.lemmas.Option.{slice_get_read}
use Rattle.sequence.specs.Changes.{ChangesItem, IsLess, KeepsLabel}
use Rattle.sequence.specs.declared.tree.search.Spot.{Spot}
use Rattle.sequence.specs.Spots.{Leads, spliced}
use Rattle.sequence.specs.declared.tree.Child.{Child}
use Rattle.sequence.specs.Nodes.{AreChildren, CanLose, IsChild, IsLabelled, IsList, first_label}
use Rattle.sequence.specs.Nodes.{height_in, items_in}
use Rattle.sequence.proofs.Nodes.Children.{items_split, length-split}
use Rattle.sequence.proofs.Nodes.Labelled.{first_get, first_set, labelled_at, labelled_by}
use Rattle.sequence.proofs.Nodes.Placed.{child_here, left_as, put_under, stand_itself}
use Rattle.sequence.proofs.Lists.Spliced.{get_between, length-spliced, remove_spliced, set_spliced}

-- the second item is the first one of the others
get_second : {T : Type 0} (es : List T) (second : T) → slice_get es 1 ≡ Some second
    → slice_get (drop 1 es) 0 ≡ Some second
get_second [] second is = is
get_second (e ∷ es) second is = is

-- the node after the call on a child, whose answer is r
pub record IsChanged {T L F R E : Type 0} (label_of : T → L) (tree : List T × ℕ) (at : ℕ)
    (g : Once F (MutBor T × Unit {0}) (R × (MutBor T × Unit {0}))) (change : F) (new : List (Child T L))
    (r : Result R E) : Type 0 where
  pub whole : AreChildren label_of new
  pub done : MatchResult r (λ back. ChangesItem g change at tree.0 (items_in new) back × (height_in new ≡ tree.1))
      (λ _. ◌≡◌ {A = List T × ℕ} (items_in new, height_in new) tree)

module _ {T L : Type 0} {label_of : T → L} (tree : List T × ℕ) (cs : List (Child T L)) (i : ℕ) (d : Child T L)
    (are : AreChildren label_of cs) (same : ◌≡◌ {A = List T × ℕ} (items_in cs, height_in cs) tree) (h : i < length cs)
    (is : d ≡ get_or cs i d)
    (at p : ℕ) (place : at ≡ length (items_in (take i cs)) + p) (inside : p < length d.tree.0) where
  -- children with the items and the height of those have what the tree has
  both_are : (new : List (Child T L)) → items_in new ≡ items_in cs → height_in new ≡ height_in cs
      → ◌≡◌ {A = List T × ℕ} (items_in new, height_in new) tree
  both_are new items height = ap₂ (λ (es : List T) (n : ℕ). (es, n)) items height ∙ same

  -- the item of the whole is that of the child
  pub item_under : slice_get tree.0 at ≡ slice_get d.tree.0 p
  item_under =
      let l = items_in (take i cs) in
      let m = (get_or cs i d).tree.0 in
      let r = items_in (drop (i + 1) cs) in
      ap (λ (t : List T × ℕ). slice_get t.0 at) (sym same)
      ∙ ap (λ (es : List T). slice_get es at) (items_split cs i d h)
      ∙ get_between l m r at p place (omega (arith, inside, ap (λ (c : Child T L). length c.tree.0) is))
      ∙ ap (λ (c : Child T L). slice_get c.tree.0 p) (sym is)

  module _ {F R : Type 0} (g : Once F (MutBor T × Unit {0}) (R × (MutBor T × Unit {0}))) (change : F) where
    -- the item was changed in the child, or the call was refused
    pub changed_under : {E : Type 0} (new : List T × ℕ) (r : Result R E)
        → MatchResult r (λ back. ChangesItem g change p d.tree.0 new.0 back × (new.1 ≡ d.tree.1)) (λ _. new ≡ d.tree)
        → ((before : T) → slice_get d.tree.0 p ≡ Some before → KeepsLabel g change label_of before)
        → IsChanged label_of tree at g change (set cs i (record d { tree = new })) r
    changed_under new (Ok r) (changed, level) keeps =
        let kept = keeps changed.before changed.found changed.after r changed.called in
        let c = record d { tree = new } in
        let old = child_here cs i d are h is in
        let many : length new.0 ≡ length d.tree.0 =
        ap (length {A = T}) changed.items ∙ length-set d.tree.0 p changed.after in
        let child : IsChild (d.tree.1 + 1) c = record {
          counted = omega (arith, many, old.counted);
          level = ap (λ (n : ℕ). n + 1) level;
          wide = subst (λ (n : ℕ). 2 ^ n ≤ length new.0) (sym level) (omega (arith, many, old.wide));
        } in
        let one = changed.after ∷ [] in
        let first = ap (λ (es : List T). first_label label_of es) changed.items
        ∙ first_set label_of d.tree.0 p changed.before changed.after changed.found kept in
        let label = λ (p : 0 < i). labelled_by d c refl (λ h. first ∙ h) (labelled_at cs i d are p h is) in
        let within : p + 1 ≤ length d.tree.0 = omega (arith, inside) in
        let put = put_under cs cs i d c (stand_itself cs are) h is child label at p 1 one place within {A = R}
        {E = Unit {0}} (Ok r) (changed.items ∙ set_spliced d.tree.0 p changed.after inside) tt
        (omega (arith, are.list.room)) in
        let long = ap (λ (c : Child T L). length c.tree.0) is in
        let there : at < length (items_in cs) = omega (arith, place, inside, long, length-split cs i d h) in
        record {
          whole = put.children;
          done = (
            record {
              before = changed.before;
              after = changed.after;
              found = item_under ∙ changed.found;
              called = changed.called;
              items = put.items ∙ sym (set_spliced (items_in cs) at changed.after there)
                  ∙ ap (λ (t : List T × ℕ). set t.0 at changed.after) same;
            },
            put.height ∙ ap (λ (t : List T × ℕ). t.1) same,
          );
        }
    changed_under new (Err e) left keeps =
        let c = record d { tree = new } in
        let stays = left_as cs i d are h is c (ap (λ (t : List T × ℕ). record d { tree = t }) left) in
        record { whole = stays.children; done = both_are (set cs i c) stays.items stays.height }

module _ {T L : Type 0} (label_of : T → L) (es : List T) (at : ℕ) where
  -- what a child gets as its label once that item is gone: a new one, or none if its first item stays
  abbrev pub Relabels : Bool → Option L → Type 0
  Relabels labelled (Some label) = first_label label_of (spliced at 1 [] es) ≡ Some label
  Relabels labelled None = IsTrue labelled → 0 < at

  -- the label of the second item, if the first one goes
  pub first_gone : (second : T) → at ≡ 0 → slice_get es 1 ≡ Some second
      → first_label label_of (spliced at 1 [] es) ≡ Some (label_of second)
  first_gone second first is =
      subst (λ (n : ℕ). first_label label_of (spliced n 1 [] es) ≡ Some (label_of second)) (sym first)
      (first_get label_of (drop 1 es) second (get_second es second is))

-- no label is asked for, or the first item stays
pub behind_first_one : (labelled : Bool) (at : ℕ) → (IsTrue labelled × (at ≡ 0 → ⊥)) ⊎ (labelled ≡ false)
    → IsTrue labelled → 0 < at
behind_first_one labelled at either is = elim either [
  | inl behind ↦ omega (arith, behind.1)
  | inr not ↦ absurd (true≢false (sym is ∙ not))
]

module _ {T L : Type 0} {label_of : T → L} (old : Child T L) (at : ℕ) (labelled : Bool) where
  -- the child without that item, with a label that is right if it is to be
  pub less : (label : L) (new : List T × ℕ) (item : T) → IsChild (old.tree.1 + 1) old → CanLose old.tree
      → at < length old.tree.0
      → (slice_get old.tree.0 at ≡ Some item) × (new ≡ (spliced at 1 [] old.tree.0, old.tree.1))
      → (IsTrue labelled → IsLabelled label_of old → first_label label_of (spliced at 1 [] old.tree.0) ≡ Some label)
      → IsLess label_of labelled at old (record { label = label; len = old.len - 1; tree = new }) item
  less label new item child spare there gone first =
      let items = ap (λ (t : List T × ℕ). t.0) gone.1 in
      let level = ap (λ (t : List T × ℕ). t.1) gone.1 in
      let many = length-spliced at 1 [] old.tree.0 (omega (arith, there)) in
      let long = ap (length {A = T}) items in
      record {
        found = gone.0;
        items = items;
        child = record {
          counted = omega (arith, child.counted, many, long, there);
          level = ap (λ (n : ℕ). n + 1) level;
          wide = subst (λ (n : ℕ). 2 ^ n ≤ length new.0) (sym level) (omega (arith, spare, many, long));
        };
        label = λ l is. record { first = ap (λ (es : List T). first_label label_of es) items ∙ first l is };
      }

-- the node after an item was taken out of a child, whose answer is r
pub record IsRemoved {T L E : Type 0} (label_of : T → L) (tree : List T × ℕ) (at : ℕ) (new : List (Child T L))
    (r : Result T E) : Type 0 where
  pub whole : AreChildren label_of new
  pub done : MatchResult r (λ item. (slice_get tree.0 at ≡ Some item)
      × ◌≡◌ {A = List T × ℕ} (items_in new, height_in new) (spliced at 1 [] tree.0, tree.1))
      (λ _. ◌≡◌ {A = List T × ℕ} (items_in new, height_in new) tree)

-- a spot behind an item leads to that item's child
module _ {T L : Type 0} {label_of : T → L} (tree : List T × ℕ) (cs : List (Child T L)) (spot : Spot) (d : Child T L)
    (are : AreChildren label_of cs) (same : ◌≡◌ {A = List T × ℕ} (items_in cs, height_in cs) tree) (at : ℕ)
    (leads : Leads cs (at + 1) spot) (is : d ≡ get_or cs spot.child d) where
  pub spot_inside : spot.place - 1 < length d.tree.0
  spot_inside =
      let inner = leads.inner (omega arith) in
      omega (arith, leads.inside d, inner, ap (λ (c : Child T L). length c.tree.0) is)

  pub spot_place : at ≡ length (items_in (take spot.child cs)) + (spot.place - 1)
  spot_place = let inner = leads.inner (omega arith) in omega (arith, leads.is, inner)

  pub item_at : slice_get tree.0 at ≡ slice_get d.tree.0 (spot.place - 1)
  item_at = item_under tree cs spot.child d are same leads.within is at (spot.place - 1) spot_place spot_inside

  -- what is asked of the item is asked of it in the child
  pub asked_below : {P : T → Type 0} → ForSome (slice_get tree.0 at) P
      → ForSome (slice_get d.tree.0 (spot.place - 1)) P
  asked_below asked x here = asked x (item_at ∙ here)

  pub removed_at : {E : Type 0} (new : Child T L) (r : Result T E)
      → MatchResult r (IsLess label_of (nat_lt 0 spot.child) (spot.place - 1) d new) (λ _. new ≡ d)
      → IsRemoved label_of tree at (set cs spot.child new) r
  removed_at new (Ok item) less =
      let within : spot.place - 1 + 1 ≤ length d.tree.0 = omega (arith, spot_inside) in
      let label = λ (p : 0 < spot.child). less.label (lt-ltb 0 spot.child p)
      (labelled_at cs spot.child d are p leads.within is) in
      let put = put_under cs cs spot.child d new (stand_itself cs are) leads.within is less.child label at
      (spot.place - 1) 1 [] spot_place within {A = T} {E = Unit {0}} (Ok item) less.items tt
      (omega (arith, are.list.room)) in
      record {
        whole = put.children;
        done = (
          item_at ∙ less.found,
          ap₂ (λ (es : List T) (n : ℕ). (es, n)) put.items put.height
              ∙ ap (λ (t : List T × ℕ). (spliced at 1 [] t.0, t.1)) same,
        );
      }
  removed_at new (Err e) left =
      let stays = left_as cs spot.child d are leads.within is new left in
      record {
        whole = stays.children;
        done = ap₂ (λ (es : List T) (n : ℕ). (es, n)) stays.items stays.height ∙ same;
      }

  pub changed_at : {F R E : Type 0} (g : Once F (MutBor T × Unit {0}) (R × (MutBor T × Unit {0}))) (change : F)
      (new : List T × ℕ) (r : Result R E) → MatchResult r
      (λ back. ChangesItem g change (spot.place - 1) d.tree.0 new.0 back × (new.1 ≡ d.tree.1)) (λ _. new ≡ d.tree)
      → ((before : T) → slice_get tree.0 at ≡ Some before → KeepsLabel g change label_of before)
      → IsChanged label_of tree at g change (set cs spot.child (record d { tree = new })) r
  changed_at g change new r changed keeps =
      changed_under tree cs spot.child d are same leads.within is at (spot.place - 1) spot_place spot_inside g change
      new r changed (λ before here. keeps before (item_at ∙ here))

-- the leaf after that item was taken out of it
pub removed_leaf : {T : Type 0} (tree : List T × ℕ) (es new : List T) (at : ℕ) (item : T)
    → ◌≡◌ {A = List T × ℕ} (es, 0) tree → IsList es → 1 < length tree.0 → at < length tree.0
    → item ≡ get_or es at item → new ≡ remove es at
    → IsList new × ((slice_get tree.0 at ≡ Some item)
    × ◌≡◌ {A = List T × ℕ} (new, 0) (spliced at 1 [] tree.0, tree.1))
removed_leaf {T} tree es new at item same list more there found left =
    let long = ap (λ (t : List T × ℕ). length t.0) same in
    let items = left ∙ remove_spliced es at in
    let many = length-spliced at 1 [] es (omega (arith, there, long)) in
    let fewer = ap (length {A = T}) items in (
      record { some = omega (arith, fewer, many, more, long); room = omega (arith, fewer, many, list.room) },
      (
        ap (λ (t : List T × ℕ). slice_get t.0 at) (sym same)
            ∙ slice_get_read es (length es) at item refl (omega (arith, there, long)) found,
        ap (λ (es : List T). (es, 0)) items ∙ ap (λ (t : List T × ℕ). (spliced at 1 [] t.0, t.1)) same,
      ),
    )
