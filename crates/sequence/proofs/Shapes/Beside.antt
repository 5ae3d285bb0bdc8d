-- A branch with one more child, before all children or behind all.
use Rattle.std.proofs.Common.{◌≡◌, ◌+◌, ◌<◌, ◌^◌, ℕ, List, [], ◌∷◌, ◌++◌, length, drop, get_or, set, ap, refl, sym, ◌∙◌}
use Rattle.std.proofs.Common.{subst, arith, append-nil, length-append}
use Rattle.std.specs.Prelude.{Some, slice_get}
use Rattle.std.specs.List.{All}
use Rattle.std.proofs.lemmas.List.{get_or_default}
use Rattle.std.proofs.lemmas.List.Elements.{All-append, All-cons, All-nil}
use Rattle.sequence.specs.declared.tree.Child.{Child}
use Rattle.sequence.specs.Nodes.{AreChildren, IsChild, IsLabelled, StandFor, first_label, height_in, items_in}
use Rattle.sequence.proofs.Nodes.Children.{children_are, height_is, items_append}
use Rattle.sequence.proofs.Nodes.Labelled.{behind_append, first_get}
use Rattle.sequence.proofs.Nodes.Placed.{child_here, stands_in}
use Rattle.sequence.proofs.Nodes.Wide.{some_in}

module _ {T L : Type 0} (label_of : T → L) (cs : List (Child T L)) where
  -- the same children, of which the first has the label of its first item too
  pub record AreLabelled (new : List (Child T L)) : Type 0 where
    pub same : StandFor label_of cs new
    pub labels : All (IsLabelled label_of) new

  -- children of one more, which are as high
  pub record AreMore (new : List (Child T L)) : Type 0 where
    pub children : AreChildren label_of new
    pub height : height_in new ≡ height_in cs

module _ {T L : Type 0} {label_of : T → L} where
  -- the first and all others
  all_first : (cs : List (Child T L)) (c : Child T L) → All (IsLabelled label_of) (drop 1 cs) → IsLabelled label_of c
      → All (IsLabelled label_of) (set cs 0 c)
  all_first [] c a q = All-nil (IsLabelled label_of)
  all_first (d ∷ cs) c a q = All-cons (IsLabelled label_of) c cs q a

  -- the first child gets that label
  labelled_first : (cs : List (Child T L)) (d : Child T L) (label : L) → AreChildren label_of cs
      → d ≡ get_or cs 0 d → first_label label_of d.tree.0 ≡ Some label
      → AreLabelled label_of cs (set cs 0 (record d { label = label }))
  labelled_first cs d label are is first =
      let c = record d { label = label } in
      let some = some_in cs are in
      let here = child_here cs 0 d are some is in
      let child : IsChild (d.tree.1 + 1) c = record {
        counted = here.counted;
        level = here.level;
        wide = here.wide;
      } in
      record {
        same = stands_in cs 0 d are some is c child (λ p. absurd (omega (arith, p))) refl;
        labels = all_first cs c are.labels (record { first = first });
      }

  -- that of its first item, which was read
  pub labelled_by_first : (cs : List (Child T L)) (d e : Child T L) (item : T) (label : L) → AreChildren label_of cs
      → d ≡ get_or cs 0 d → e ≡ get_or cs 0 e → slice_get e.tree.0 0 ≡ Some item → label ≡ label_of item
      → AreLabelled label_of cs (set cs 0 (record d { label = label }))
  labelled_by_first cs d e item label are is read there first =
      let same : d ≡ e = is ∙ get_or_default cs 0 d e (some_in cs are) ∙ sym read in
      labelled_first cs d label are is
      (ap (λ (child : Child T L). first_label label_of child.tree.0) same ∙ first_get label_of e.tree.0 item there
      ∙ ap (λ (l : L). Some l) (sym first))

  module _ (cs : List (Child T L)) (child : Child T L) (are : AreChildren label_of cs)
      (whole : IsChild (height_in cs) child) (room : length (items_in cs) + length child.tree.0 < 2 ^ 64) where
    -- the child before all of them
    pub more_before : (new : List (Child T L)) → AreLabelled label_of cs new → AreMore label_of cs (child ∷ new)
    more_before new labelled =
        let P : Child T L → Type 0 = IsChild (height_in cs) in
        let same = labelled.same in
        let each : All P (child ∷ new) = All-cons P child new whole
        (subst (λ (h : ℕ). All (IsChild h) new) same.height same.children.each) in
        record {
          children = children_are (height_in cs) (child ∷ new) each (omega arith)
              (omega (arith, length-append child.tree.0 (items_in new), ap (length {A = T}) same.items, room))
              labelled.labels;
          height = height_is (height_in cs) (child ∷ new) each (omega arith);
        }

    -- the child behind all
    pub more_behind : IsLabelled label_of child → AreMore label_of cs (cs ++ child ∷ [])
    more_behind label =
        let P : Child T L → Type 0 = IsChild (height_in cs) in
        let Q : Child T L → Type 0 = IsLabelled label_of in
        let new = cs ++ child ∷ [] in
        let each : All P new = All-append P cs (child ∷ []) are.each (All-cons P child [] whole (All-nil P)) in
        let some : 0 < length new = omega (arith, length-append cs (child ∷ [])) in
        record {
          children = children_are (height_in cs) new each some
              (omega (
                arith,
                ap (length {A = T}) (items_append cs (child ∷ [])),
                length-append (items_in cs) (items_in (child ∷ [])),
                ap (length {A = T}) (append-nil child.tree.0),
                room,
              ))
              (behind_append Q cs (child ∷ []) are.labels (All-nil Q)
              (λ _. All-cons Q child [] label (All-nil Q)));
          height = height_is (height_in cs) new each some;
        }
