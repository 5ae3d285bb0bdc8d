-- The children of two nodes in one, of which the first of the second node gets another label.
use Rattle.std.proofs.Common.{◌≡◌, ◌+◌, ◌<◌, ◌≤◌, ◌^◌, ℕ, List, [], ◌∷◌, ◌++◌, length, get_or, set, ap, sym, ◌∙◌, subst}
use Rattle.std.proofs.Common.{arith, length-append}
use Rattle.std.specs.Prelude.{Some}
use Rattle.std.specs.List.{All}
use Rattle.std.proofs.lemmas.List.{set_at}
use Rattle.std.proofs.lemmas.List.Elements.{All-append, All-cons, All-head, All-tail}
use Rattle.std.proofs.lemmas.Nat.{pow_pos}
use Rattle.std.proofs.Math.Seq.{get_or_at}
use Rattle.sequence.specs.declared.tree.Child.{Child}
use Rattle.sequence.specs.Nodes.{AreChildren, IsChild, IsLabelled, IsList, first_label, height_in, items_in}
use Rattle.sequence.proofs.Nodes.Children.{children_are, height_is, items_append}
use Rattle.sequence.proofs.Nodes.Labelled.{behind_append, first_front}
use Rattle.sequence.proofs.Nodes.Wide.{some_in}

module _ {T L : Type 0} (label_of : T → L) where
  -- the children of a node with the items of both, which is as high
  pub record AreBoth (cs ds new : List (Child T L)) : Type 0 where
    pub children : AreChildren label_of new
    pub same : ◌≡◌ {A = List T × ℕ} (items_in new, height_in new) (items_in cs ++ items_in ds, height_in cs)

module _ {T L : Type 0} {label_of : T → L} where
  -- the second ones get behind the first, and their first one the label of its first item
  pub both : (cs ds : List (Child T L)) (x : Child T L) (label : L) (n : ℕ) → AreChildren label_of cs
      → AreChildren label_of ds → height_in cs ≡ height_in ds → IsList (items_in cs ++ items_in ds) → length cs ≡ n
      → x ≡ get_or (cs ++ ds) n x → first_label label_of (items_in ds) ≡ Some label
      → AreBoth label_of cs ds (set (cs ++ ds) n (record x { label = label }))
  both cs [] x label n are more level list long is first = absurd (omega (arith, some_in [] more))
  both cs (d ∷ ds) x label n are more level list long is first =
      let c = record x { label = label } in
      let h = height_in cs in
      let P : Child T L → Type 0 = IsChild h in
      let Q : Child T L → Type 0 = IsLabelled label_of in
      let here : x ≡ d = is ∙ get_or_at cs d ds x n long in
      let each : All P (d ∷ ds) = subst (λ (h : ℕ). All (IsChild h) (d ∷ ds)) (sym level) more.each in
      let one = All-head P d ds each in
      let child : P c = record {
        counted = ap (λ (x : Child T L). x.len) here ∙ one.counted ∙ ap (λ (x : Child T L). length x.tree.0) (sym here);
        level = ap (λ (x : Child T L). x.tree.1 + 1) here ∙ one.level;
        wide = subst (λ (x : Child T L). 2 ^ x.tree.1 ≤ length x.tree.0) (sym here) one.wide;
      } in
      let all = All-append P cs (c ∷ ds) are.each (All-cons P c ds child (All-tail P d ds each)) in
      let some : 0 < length (cs ++ c ∷ ds) = omega (arith, length-append cs (c ∷ ds)) in
      let items : items_in (cs ++ c ∷ ds) ≡ items_in cs ++ items_in (d ∷ ds) =
      items_append cs (c ∷ ds) ∙ ap (λ (x : Child T L). items_in cs ++ (x.tree.0 ++ items_in ds)) here in
      let labelled : Q c = record {
        first = ap (λ (x : Child T L). first_label label_of x.tree.0) here
            ∙ first_front label_of d.tree.0 (items_in ds) (omega (arith, one.wide, pow_pos d.tree.1)) ∙ first;
      } in
      subst (λ (new : List (Child T L)). AreBoth label_of cs (d ∷ ds) new) (sym (set_at cs d ds c n long)) record {
        children = children_are h (cs ++ c ∷ ds) all some
            (subst (λ (es : List T). length es < 2 ^ 64) (sym items) list.room)
            (behind_append Q cs (c ∷ ds) are.labels more.labels (λ _. All-cons Q c ds labelled more.labels));
        same = ap {B = List T × ℕ} (λ (es : List T). (es, height_in (cs ++ c ∷ ds))) items
            ∙ ap {B = List T × ℕ} (λ (n : ℕ). (items_in cs ++ items_in (d ∷ ds), n))
            (height_is h (cs ++ c ∷ ds) all some);
      }

  -- the same of a list that is said to be both
  pub both_in : (cs ds all : List (Child T L)) (x : Child T L) (label : L) (n : ℕ) → all ≡ cs ++ ds
      → AreChildren label_of cs → AreChildren label_of ds → height_in cs ≡ height_in ds
      → IsList (items_in cs ++ items_in ds) → length cs ≡ n → x ≡ get_or all n x
      → first_label label_of (items_in ds) ≡ Some label
      → AreBoth label_of cs ds (set all n (record x { label = label }))
  both_in cs ds all x label n same are more level list long is first =
      subst (λ (xs : List (Child T L)). AreBoth label_of cs ds (set xs n (record x { label = label }))) (sym same)
      (both cs ds x label n are more level list long (is ∙ ap (λ (xs : List (Child T L)). get_or xs n x) same) first)
