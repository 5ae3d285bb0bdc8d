-- A branch after items went in place of others in a child of it, and the place of an end of it.
use Rattle.std.proofs.Common.{◌≡◌, ◌+◌, ◌-◌, ◌<◌, ◌≤◌, ◌^◌, ℕ, suc, List, [], ◌∷◌, ◌++◌, length, take, drop}
use Rattle.std.proofs.Common.{false, get_or, set, inl, inr, true}
use Rattle.std.proofs.Common.{add-one, ap, ap₂, append-nil, length-append, refl, sym, ◌∙◌, subst, arith}
use Rattle.std.specs.List.{remove}
use mir.Val.{bool_byte}
use Rattle.std.specs.Prelude.{Bool, Result, Ok, Err, MatchResult, OnErr, OnOk, Some, slice_get}
use Rattle.std.proofs.lemmas.Bool.{cases_lt}
use Rattle.std.proofs.lemmas.Nat.{pow_pos}
use Rattle.std.proofs.Math.Seq.{drop-length}
use Rattle.sequence.specs.Changes.{IsPopped}
use Rattle.sequence.specs.declared.tree.Child.{Child}
use Rattle.sequence.specs.declared.tree.ends.End.{End}
use Rattle.sequence.specs.declared.tree.ends.End.TheVariants.{First, Last}
use Rattle.sequence.specs.Nodes.{AreChildren, CanLose, IsChild, IsList, height_in, items_in}
use Rattle.sequence.specs.Spots.{place_at, spliced}
use Rattle.sequence.proofs.Lists.Spliced.{length-spliced, splice_between, splice_end}
use Rattle.sequence.proofs.Nodes.Changed.{item_under}
use Rattle.sequence.proofs.Nodes.Children.{items_append, items_only, items_split, length-more, length-parts}
use Rattle.sequence.proofs.Nodes.Labelled.{labelled_at, labelled_put}
use Rattle.sequence.proofs.Nodes.Placed.{child_here, left_as, put_under, stand_itself}
use Rattle.sequence.proofs.Nodes.Wide.{three_children}
use Rattle.sequence.proofs.Shapes.Halves.{children_drop, children_take, height_drop, height_take}

-- the children after the call, whose answer is r
pub record IsEnded {T L A E : Type 0} (label_of : T → L) (tree : List T × ℕ) (at gone : ℕ) (more : List T)
    (new : List (Child T L)) (r : Result A E) : Type 0 where
  pub whole : AreChildren label_of new
  pub items : OnOk r (items_in new ≡ spliced at gone more tree.0)
  pub height : height_in new ≡ tree.1
  pub refused : OnErr r (items_in new ≡ tree.0)

-- the children make up that tree
abbrev pub MakeUp : {T L : Type 0} → List (Child T L) → List T × ℕ → Type 0
MakeUp {T} cs tree = ◌≡◌ {A = List T × ℕ} (items_in cs, height_in cs) tree

module _ {T L : Type 0} {label_of : T → L} (tree : List T × ℕ) (cs : List (Child T L)) (i : ℕ) (d : Child T L)
    (are : AreChildren label_of cs) (same : ◌≡◌ {A = List T × ℕ} (items_in cs, height_in cs) tree) (h : i < length cs)
    (is : d ≡ get_or cs i d) where
  -- no items stand behind the last child
  pub place_last : i + 1 ≡ length cs → length tree.0 ≡ length (items_in (take i cs)) + length d.tree.0
  place_last last =
      let none : length (items_in (drop (i + 1) cs)) ≡ 0 =
      ap (λ (n : ℕ). length (items_in (drop n cs))) last
      ∙ ap (λ (ds : List (Child T L)). length (items_in ds)) (drop-length cs) in
      omega (
        arith,
        none,
        length-parts cs (i + 1),
        length-more cs i d h,
        ap (λ (c : Child T L). length c.tree.0) is,
        ap (λ (t : List T × ℕ). length t.0) same,
      )

  -- the item at an end is that of the child at that end
  pub place_end : (end : End) → i ≡ place_at end (length cs) → 0 < length d.tree.0
      → place_at end (length tree.0) ≡ length (items_in (take i cs)) + place_at end (length d.tree.0)
  place_end First first some =
      sym (ap (λ (n : ℕ). length (items_in (take n cs)) + 0) first)
  place_end Last last some = omega (arith, place_last (omega (arith, last, h)), some)

  -- which is not its first one, if there are children before it and it has another
  pub behind_first : (end : End) → i ≡ place_at end (length cs) → 1 < length d.tree.0 → 0 < i
      → 0 < place_at end (length d.tree.0)
  behind_first First first more p = absurd (omega (arith, first, p))
  behind_first Last last more p = omega (arith, more)

  -- a branch with three children or more has an item to spare
  pub can_lose : 2 < length cs → CanLose tree
  can_lose many = subst CanLose same (three_children (height_in cs) cs are.each many)

  -- the child with another tree of its height, unless the call was refused
  child_put : (p gone : ℕ) (more : List T) {A E : Type 0} (new : List T × ℕ) (len : ℕ) (r : Result A E)
      → p + gone ≤ length d.tree.0 → OnOk r (2 ^ d.tree.1 + gone ≤ length d.tree.0 + length more) → new.1 ≡ d.tree.1
      → OnOk r (new.0 ≡ spliced p gone more d.tree.0) → OnErr r (new.0 ≡ d.tree.0)
      → OnOk r (len + gone ≡ d.len + length more) → OnErr r (len ≡ d.len)
      → IsChild (d.tree.1 + 1) (record d { len = len; tree = new })
  child_put p gone more new len (Ok a) inside wide level put refused counts keeps =
      let old = child_here cs i d are h is in
      let long = ap (length {A = T}) put in
      let many = length-spliced p gone more d.tree.0 inside in
      record {
        counted = omega (arith, long, many, old.counted, counts);
        level = ap (λ (n : ℕ). n + 1) level;
        wide = subst (λ (n : ℕ). 2 ^ n ≤ length new.0) (sym level) (omega (arith, long, many, wide));
      }
  child_put p gone more new len (Err e) inside wide level put refused counts keeps =
      let old = child_here cs i d are h is in
      let long = ap (length {A = T}) refused in
      record {
        counted = omega (arith, long, old.counted, keeps);
        level = ap (λ (n : ℕ). n + 1) level;
        wide = subst (λ (n : ℕ). 2 ^ n ≤ length new.0) (sym level) (omega (arith, long, old.wide));
      }

  -- the node with that child
  pub ended : (at p gone : ℕ) (more : List T) → at ≡ length (items_in (take i cs)) + p
      → p + gone ≤ length d.tree.0 → (0 < i → 0 < p) → length tree.0 + length more < 2 ^ 64 + gone
      → {A E : Type 0} (new : List T × ℕ) (len : ℕ) (r : Result A E)
      → OnOk r (2 ^ d.tree.1 + gone ≤ length d.tree.0 + length more)
      → OnOk r (new.0 ≡ spliced p gone more d.tree.0) → OnErr r (new.0 ≡ d.tree.0) → new.1 ≡ d.tree.1
      → OnOk r (len + gone ≡ d.len + length more) → OnErr r (len ≡ d.len)
      → IsEnded label_of tree at gone more (set cs i (record d { len = len; tree = new })) r
  ended at p gone more place inside behind room new len r wide put refused level counts keeps =
      let c = record d { len = len; tree = new } in
      let child = child_put p gone more new len r inside wide level put refused counts keeps in
      let label = λ (q : 0 < i). labelled_put d c p gone more r (behind q) put refused refl
      (labelled_at cs i d are q h is) in
      let all = ap (λ (t : List T × ℕ). length t.0) same in
      let done = put_under cs cs i d c (stand_itself cs are) h is child label at p gone more place inside r put refused
      (omega (arith, room, all)) in
      record {
        whole = done.children;
        items = subst (λ (t : List T × ℕ). OnOk r (items_in (set cs i c) ≡ spliced at gone more t.0)) same done.items;
        height = done.height ∙ ap (λ (t : List T × ℕ). t.1) same;
        refused = subst (λ (t : List T × ℕ). OnErr r (items_in (set cs i c) ≡ t.0)) same done.refused;
      }

  -- the node once the child has the items
  pub put_in : (at p gone : ℕ) (more : List T) → at ≡ length (items_in (take i cs)) + p
      → p + gone ≤ length d.tree.0 → (0 < i → 0 < p) → length tree.0 + length more < 2 ^ 64 + gone
      → (new : List T × ℕ) (len : ℕ) → new ≡ (spliced p gone more d.tree.0, d.tree.1)
      → 2 ^ d.tree.1 + gone ≤ length d.tree.0 + length more → len + gone ≡ d.len + length more
      → AreChildren label_of (set cs i (record d { len = len; tree = new }))
      × MakeUp (set cs i (record d { len = len; tree = new })) (spliced at gone more tree.0, tree.1)
  put_in at p gone more place inside behind room new len put wide count =
      let done = ended at p gone more place inside behind room {A = Unit {0}} {E = Unit {0}} new len (Ok tt) wide
      (ap (λ (t : List T × ℕ). t.0) put) tt (ap (λ (t : List T × ℕ). t.1) put) count tt in
      (done.whole, ap₂ (λ (es : List T) (n : ℕ). (es, n)) done.items done.height)

  -- and where it stays
  pub put_back : (new : List T × ℕ) (len : ℕ) → new ≡ d.tree → len ≡ d.len
      → AreChildren label_of (set cs i (record d { len = len; tree = new }))
      × MakeUp (set cs i (record d { len = len; tree = new })) tree
  put_back new len left count =
      let stays = left_as cs i d are h is (record d { len = len; tree = new })
      (ap₂ (λ (n : ℕ) (t : List T × ℕ). record d { len = n; tree = t }) count left) in
      (stays.children, ap₂ (λ (es : List T) (n : ℕ). (es, n)) stays.items stays.height ∙ same)

-- what follows from what an answer tells
pub on_ok : {A E P Q : Type 0} (r : Result A E) → (P → Q) → OnOk r P → OnOk r Q
on_ok (Ok a) f p = f p
on_ok (Err e) f p = tt

-- what is counted of one answer
pub at_most_one : (b : Bool) → bool_byte b ≤ 1
at_most_one true = omega arith
at_most_one false = omega arith

-- an end is within
pub end_within : (end : End) (n : ℕ) → 0 < n → place_at end n < n
end_within First n some = some
end_within Last n some = omega (arith, some)

-- the only item is at both ends
only_place : (end : End) → place_at end 1 ≡ 0
only_place First = refl
only_place Last = refl

module _ {T L : Type 0} {label_of : T → L} (tree : List T × ℕ) (cs : List (Child T L)) (i : ℕ) (d : Child T L)
    (are : AreChildren label_of cs) (same : ◌≡◌ {A = List T × ℕ} (items_in cs, height_in cs) tree) (h : i < length cs)
    (is : d ≡ get_or cs i d) where
  -- an item of one child is not all items, if there is another
  more_children : length d.tree.0 ≡ 1 → 1 < length tree.0 → 1 < length cs
  more_children one more = elim (cases_lt 1 (length cs)) [
    | inl many ↦ many
    | inr few ↦
        let first : i ≡ 0 = omega (arith, h, few) in
        let all = items_only cs d (subst (λ (n : ℕ). d ≡ get_or cs n d) first is) (omega (arith, h, few)) in
        absurd (omega (
          arith,
          one,
          more,
          ap (length {A = T}) all,
          ap (λ (t : List T × ℕ). length t.0) same,
        ))
  ]

  -- the children without the one at an end
  without_end : (end : End) → i ≡ place_at end (length cs) → 1 < length cs
      → AreChildren label_of (remove cs i) × (height_in (remove cs i) ≡ height_in cs)
  without_end First first two =
      subst (λ (n : ℕ). AreChildren label_of (remove cs n) × (height_in (remove cs n) ≡ height_in cs)) (sym first)
      (children_drop cs 1 are two, height_drop cs 1 are two)
  without_end Last last two =
      let n = length cs - 1 in
      let all : suc n ≡ length cs = omega (arith, h) in
      let front : remove cs i ≡ take n cs =
      ap (remove cs) last
      ∙ ap (λ (m : ℕ). take n cs ++ drop m cs) all
      ∙ ap (λ (ds : List (Child T L)). take n cs ++ ds) (drop-length cs)
      ∙ append-nil (take n cs) in
      let some : 0 < n = omega (arith, two) in
      subst (λ (ds : List (Child T L)). AreChildren label_of ds × (height_in ds ≡ height_in cs)) (sym front)
      (children_take cs n are some (omega arith), height_take cs n are some (omega arith))

  -- the node without the child at an end that has one item, unless the call was refused
  pub leaf_gone : (end : End) (least : ℕ) → i ≡ place_at end (length cs) → 1 < length tree.0
      → (1 < least → CanLose tree) → {E : Type 0} (new : List (Child T L)) (r : Result T E)
      → MatchResult r (λ item. ((d : Child T L) → (get_or cs i d).tree.0 ≡ item ∷ []) × (new ≡ remove cs i))
      (λ _. new ≡ cs)
      → AreChildren label_of new
      × MatchResult r (IsPopped end least tree (items_in new, height_in new)) (λ _. MakeUp new tree)
  leaf_gone end least first more spare new (Ok item) (only, gone) =
      let at = place_at end (length tree.0) in
      let l = items_in (take i cs) in
      let r = items_in (drop (i + 1) cs) in
      let its = ap (λ (c : Child T L). c.tree.0) is ∙ only d in
      let one : length d.tree.0 ≡ 1 = ap (length {A = T}) its in
      let place : at ≡ length l + 0 =
      place_end tree cs i d are same h is end first (omega (arith, one))
      ∙ ap (λ (n : ℕ). length l + n) (ap (place_at end) one ∙ only_place end) in
      let found = item_under tree cs i d are same h is at 0 place (omega (arith, one))
      ∙ ap (λ (es : List T). slice_get es 0) its in
      let items : items_in (remove cs i) ≡ spliced at 1 [] tree.0 =
      items_append (take i cs) (drop (suc i) cs)
      ∙ ap (λ (n : ℕ). l ++ items_in (drop n cs)) (sym (add-one i))
      ∙ sym (splice_between l (item ∷ []) r at 0 1 [] place (omega arith))
      ∙ ap (λ (es : List T). spliced at 1 [] (l ++ (es ++ r))) (sym (only d))
      ∙ ap (spliced at 1 []) (sym (items_split cs i d h))
      ∙ ap (λ (t : List T × ℕ). spliced at 1 [] t.0) same in
      let without = without_end end first (more_children one more) in
      let height = without.1 ∙ ap (λ (t : List T × ℕ). t.1) same in (
        subst (AreChildren label_of) (sym gone) without.0,
        record {
          found = found;
          left = ap (λ (ds : List (Child T L)). (items_in ds, height_in ds)) gone
              ∙ ap₂ (λ (es : List T) (n : ℕ). (es, n)) items height;
          spare = spare;
        },
      )
  leaf_gone end least first more spare new (Err e) kept = (
    subst (AreChildren label_of) (sym kept) are,
    ap (λ (ds : List (Child T L)). (items_in ds, height_in ds)) kept ∙ same,
  )

  -- the node after the item at that end was taken out of the child there, unless the call was refused
  pub popped_under : (end : End) (least few : ℕ) → i ≡ place_at end (length cs) → 1 < length d.tree.0
      → (1 < least → CanLose tree) → 1 < few → {E : Type 0} (new : List T × ℕ) (len : ℕ) (r : Result T E)
      → MatchResult r (IsPopped end few d.tree new) (λ _. new ≡ d.tree)
      → OnOk r (len + 1 ≡ d.len + 0) → OnErr r (len ≡ d.len)
      → AreChildren label_of (set cs i (record d { len = len; tree = new }))
      × (let cs = set cs i (record d { len = len; tree = new }) in
      MatchResult r (IsPopped end least tree (items_in cs, height_in cs)) (λ _. MakeUp cs tree))
  popped_under end least few first some spare low new len (Ok item) popped fewer kept =
      let at = place_at end (length tree.0) in
      let p = place_at end (length d.tree.0) in
      let can = popped.spare low in
      let place = place_end tree cs i d are same h is end first (omega (arith, some)) in
      let inside : p < length d.tree.0 = end_within end (length d.tree.0) (omega (arith, some)) in
      let done = put_in tree cs i d are same h is at p 1 [] place (omega (arith, inside))
      (behind_first tree cs i d are same h is end first some)
      (omega (arith, ap (λ (t : List T × ℕ). length t.0) same, are.list.room)) new len popped.left (omega (arith, can))
      fewer in (
        done.0,
        record {
          found = item_under tree cs i d are same h is at p place inside ∙ popped.found;
          left = done.1;
          spare = spare;
        },
      )
  popped_under end least few first some spare low new len (Err e) left fewer kept =
      put_back tree cs i d are same h is new len left kept

  -- the node after an item was put in behind all of its last child, unless the call was refused
  pub pushed_under : i + 1 ≡ length cs → length tree.0 + 1 < 2 ^ 64 → (item : T) (new : List T × ℕ) (len : ℕ)
      (r : Result (Unit {0}) T)
      → MatchResult r (λ _. new ≡ (spliced (length d.tree.0) 0 (item ∷ []) d.tree.0, d.tree.1))
      (λ back. (new ≡ d.tree) × (back ≡ item))
      → OnOk r (len + 0 ≡ d.len + 1) → OnErr r (len ≡ d.len)
      → AreChildren label_of (set cs i (record d { len = len; tree = new }))
      × (let cs = set cs i (record d { len = len; tree = new }) in
      MatchResult r (λ _. MakeUp cs (spliced (length tree.0) 0 (item ∷ []) tree.0, tree.1))
      (λ back. MakeUp cs tree × (back ≡ item)))
  pushed_under last room item new len (Ok a) pushed more kept =
      let child = child_here cs i d are h is in
      put_in tree cs i d are same h is (length tree.0) (length d.tree.0) 0 (item ∷ [])
      (place_last tree cs i d are same h is last) (omega arith) (λ p. omega (arith, child.wide, pow_pos d.tree.1))
      (omega (arith, room)) new len pushed (omega (arith, child.wide)) more
  pushed_under last room item new len (Err back) (left, same_item) more kept =
      let done = put_back tree cs i d are same h is new len left kept in
      (done.0, (done.1, same_item))

module _ {T : Type 0} (tree : List T × ℕ) (es new : List T) (same : ◌≡◌ {A = List T × ℕ} (es, 0) tree)
    (list : IsList es) where
  -- the leaf after the item at that end was taken out of it
  pub popped_leaf : (end : End) (least : ℕ) (item : T) → 1 < length tree.0
      → slice_get es (place_at end (length es)) ≡ Some item → new ≡ spliced (place_at end (length es)) 1 [] es
      → IsList new × IsPopped end least tree (new, 0) item
  popped_leaf end least item more found left =
      let some : 1 < length es = omega (arith, more, ap (λ (t : List T × ℕ). length t.0) same) in
      let inside = end_within end (length es) (omega (arith, some)) in
      let many = length-spliced (place_at end (length es)) 1 [] es (omega (arith, inside)) in
      let long = ap (length {A = T}) left in (
        record { some = omega (arith, long, many, some); room = omega (arith, long, many, list.room) },
        subst (λ (t : List T × ℕ). IsPopped end least t (new, 0) item) same (record {
          found = found;
          left = ap (λ (es : List T). (es, 0)) left;
          spare = λ low. omega (arith, some);
        }),
      )

  -- the leaf after the item was put in behind all, unless the call was refused
  pub pushed_leaf : (item : T) (r : Result (Unit {0}) T) → length tree.0 + 1 < 2 ^ 64
      → MatchResult r (λ _. new ≡ es ++ item ∷ []) (λ back. (new ≡ es) × (back ≡ item))
      → IsList new × MatchResult r
      (λ _. ◌≡◌ {A = List T × ℕ} (new, 0) (spliced (length tree.0) 0 (item ∷ []) tree.0, tree.1))
      (λ back. ◌≡◌ {A = List T × ℕ} (new, 0) tree × (back ≡ item))
  pushed_leaf item (Ok a) room put =
      let many = ap (length {A = T}) put ∙ length-append es (item ∷ []) in (
        record {
          some = omega (arith, many);
          room = omega (arith, many, room, ap (λ (t : List T × ℕ). length t.0) same);
        },
        ap (λ (es : List T). (es, 0)) (put ∙ sym (splice_end es (item ∷ [])))
            ∙ ap (λ (t : List T × ℕ). (spliced (length t.0) 0 (item ∷ []) t.0, t.1)) same,
      )
  pushed_leaf item (Err back) room (left, same_item) =
      (subst IsList (sym left) list, (ap (λ (es : List T). (es, 0)) left ∙ same, same_item))
