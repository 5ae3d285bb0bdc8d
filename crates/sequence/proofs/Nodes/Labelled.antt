-- The labels of the children of a branch, and of what stands first under a child.
use Rattle.std.proofs.Common.{◌≡◌, ◌<◌, ◌≤◌, ℕ, zero, suc, List, [], ◌∷◌, ◌++◌, length, take, drop, get_or, set}
use Rattle.std.proofs.Common.{ap, refl, sym, ◌∙◌}
use Rattle.std.proofs.Common.{subst, arith}
use Rattle.std.specs.Prelude.{Some, Result, Ok, Err, OnErr, OnOk, slice_get}
use Rattle.std.specs.List.{All, insert}
use Rattle.std.proofs.lemmas.List.{drop_more}
use Rattle.std.proofs.lemmas.List.Elements.{All-append, All-drop, All-nil, All-set, All-take}
use Rattle.std.proofs.lemmas.Nat.{pow_pos}
use Rattle.std.proofs.lemmas.Option.{none-some}
use Rattle.sequence.specs.declared.tree.Child.{Child}
use Rattle.sequence.specs.Nodes.{AreChildren, AreHalves, IsLabelled, first_label}
use Rattle.sequence.specs.Spots.{spliced}

-- what holds of all items but the first
module _ {X : Type 0} (P : X → Type 0) where
  -- of those in the front
  pub behind_take : (n : ℕ) (xs : List X) → All P (drop 1 xs) → All P (drop 1 (take n xs))
  behind_take zero xs a = All-nil P
  behind_take (suc n) [] a = All-nil P
  behind_take (suc n) (x ∷ xs) a = All-take P n xs a

  -- of all in the back
  pub all_behind : (n : ℕ) (xs : List X) → 0 < n → All P (drop 1 xs) → All P (drop n xs)
  all_behind zero xs p a = absurd (omega (arith, p))
  all_behind (suc n) [] p a = All-nil P
  all_behind (suc n) (x ∷ xs) p a = All-drop P n xs a

  pub behind_drop : (n : ℕ) (xs : List X) → All P (drop 1 xs) → All P (drop 1 (drop n xs))
  behind_drop zero xs a = a
  behind_drop (suc n) xs a = All-drop P 1 (drop (suc n) xs) (all_behind (suc n) xs (omega arith) a)

  -- of both, if there is a front
  pub behind_append : (xs ys : List X) → All P (drop 1 xs) → All P (drop 1 ys) → (0 < length xs → All P ys)
      → All P (drop 1 (xs ++ ys))
  behind_append [] ys a b all = b
  behind_append (x ∷ xs) ys a b all = All-append P xs ys a (all (omega arith))

  -- with another item, which may be the first
  pub behind_set : (xs : List X) (i : ℕ) (x : X) → All P (drop 1 xs) → (0 < i → P x) → All P (drop 1 (set xs i x))
  behind_set [] i x a p = a
  behind_set (y ∷ xs) zero x a p = a
  behind_set (y ∷ xs) (suc i) x a p = All-set P xs i x (p (omega arith)) a

  -- one of them
  pub at_behind : (xs : List X) (i : ℕ) (d : X) → All P (drop 1 xs) → 0 < i → i < length xs → P (get_or xs i d)
  at_behind [] i d a p h = absurd (omega (arith, h))
  at_behind (x ∷ xs) zero d a p h = absurd (omega (arith, p))
  at_behind (x ∷ xs) (suc i) d a p h = a i d (omega (arith, h))

module _ {T L : Type 0} (label_of : T → L) where
  -- more items behind leave the first one
  pub first_in : (es rest : List T) (label : L) → first_label label_of es ≡ Some label
      → first_label label_of (es ++ rest) ≡ Some label
  first_in [] rest label h = absurd (none-some label h)
  first_in (e ∷ es) rest label h = h

  -- and so do fewer
  pub first_front : (es rest : List T) → 0 < length es → first_label label_of es ≡ first_label label_of (es ++ rest)
  first_front [] rest p = absurd (omega (arith, p))
  first_front (e ∷ es) rest p = refl

  -- items that go in behind the first leave it
  pub first_spliced : (es more : List T) (at gone : ℕ) (label : L) → 0 < at → first_label label_of es ≡ Some label
      → first_label label_of (spliced at gone more es) ≡ Some label
  first_spliced es more zero gone label p h = absurd (omega (arith, p))
  first_spliced [] more (suc at) gone label p h = absurd (none-some label h)
  first_spliced (e ∷ es) more (suc at) gone label p h = h

  -- another item with the label of the one there
  pub first_set : (es : List T) (at : ℕ) (old new : T) → slice_get es at ≡ Some old → label_of new ≡ label_of old
      → first_label label_of (set es at new) ≡ first_label label_of es
  first_set [] at old new h is = absurd (none-some old h)
  first_set (e ∷ es) zero old new h is = cc
  first_set (e ∷ es) (suc at) old new h is = refl

  -- the first from a number on
  pub first_drop : (es : List T) (n : ℕ) (d : T) → n < length es
      → first_label label_of (drop n es) ≡ Some (label_of (get_or es n d))
  first_drop es n d h = ap (λ (xs : List T). first_label label_of xs) (drop_more es n d h)

  -- a first one by its number
  pub first_get : (es : List T) (e : T) → slice_get es 0 ≡ Some e → first_label label_of es ≡ Some (label_of e)
  first_get [] e h = absurd (none-some e h)
  first_get (d ∷ es) e h = cc

  -- an item that comes in behind the first
  pub first_behind : (es : List T) (n : ℕ) (e : T) → (n ≡ 0 → ⊥) → n ≤ length es
      → first_label label_of (insert es n e) ≡ first_label label_of es
  first_behind es zero e some h = absurd (some refl)
  first_behind [] (suc n) e some h = absurd (omega (arith, h))
  first_behind (d ∷ es) (suc n) e some h = refl

module _ {T L : Type 0} {label_of : T → L} where
  -- a child whose items have the same first one, and whose label is the same
  pub labelled_by : (old new : Child T L) → new.label ≡ old.label
      → (first_label label_of old.tree.0 ≡ Some old.label → first_label label_of new.tree.0 ≡ Some old.label)
      → IsLabelled label_of old → IsLabelled label_of new
  labelled_by old new same first is = record {
    first = first is.first ∙ ap (λ (l : L). Some l) (sym same);
  }

  -- a child that takes items in behind its first one, unless that is refused
  pub labelled_put : {A E : Type 0} (old new : Child T L) (at gone : ℕ) (more : List T) (r : Result A E) → 0 < at
      → OnOk r (new.tree.0 ≡ spliced at gone more old.tree.0) → OnErr r (new.tree.0 ≡ old.tree.0)
      → new.label ≡ old.label → IsLabelled label_of old → IsLabelled label_of new
  labelled_put old new at gone more (Ok a) p put refused same is =
      labelled_by old new same
      (λ h. ap (λ (es : List T). first_label label_of es) put
      ∙ first_spliced label_of old.tree.0 more at gone old.label p h)
      is
  labelled_put old new at gone more (Err e) p put refused same is =
      labelled_by old new same (λ h. ap (λ (es : List T). first_label label_of es) refused ∙ h) is

  -- the first of two halves
  pub labelled_left : (old left right : Child T L) → AreHalves label_of old.tree left.tree right
      → left.label ≡ old.label → IsLabelled label_of old → IsLabelled label_of left
  labelled_left old left right halves same is =
      labelled_by old left same
      (λ h. first_front label_of left.tree.0 right.tree.0 (omega (arith, halves.wide, pow_pos left.tree.1))
      ∙ ap (λ (es : List T). first_label label_of es) halves.items ∙ h)
      is

  -- a child of the items of both
  pub labelled_both : (one two both : Child T L) → both.tree.0 ≡ one.tree.0 ++ two.tree.0 → both.label ≡ one.label
      → IsLabelled label_of one → IsLabelled label_of both
  labelled_both one two both joined same is =
      labelled_by one both same
      (λ h. ap (λ (es : List T). first_label label_of es) joined
      ∙ first_in label_of one.tree.0 two.tree.0 one.label h)
      is

  -- a child of a branch behind the first
  pub labelled_at : (cs : List (Child T L)) (i : ℕ) (d : Child T L) → AreChildren label_of cs → 0 < i → i < length cs
      → d ≡ get_or cs i d → IsLabelled label_of d
  labelled_at cs i d are p h is =
      subst (λ (c : Child T L). IsLabelled label_of c) (sym is)
      (at_behind (λ (c : Child T L). IsLabelled label_of c) cs i d are.labels p h)
