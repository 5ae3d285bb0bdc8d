-- The label of a child tells whether the first item under it is before the cut.
use Rattle.std.proofs.Common.{◌≡◌, ◌+◌, ◌<◌, ◌≤◌, inl, inr, ℕ, zero, suc, Bool, List, [], ◌∷◌, ◌++◌, length, take, drop}
use Rattle.std.proofs.Common.{get_or, nat_lt, refl, ap, sym, ◌∙◌, arith, length-append}
use Rattle.std.specs.Prelude.{Some}
use Rattle.std.proofs.lemmas.Bool.{cases_lt}
use Rattle.std.proofs.lemmas.List.{get_or_at}
use Rattle.std.proofs.lemmas.Option.{none-some, same_Some}
use Rattle.sequence.specs.declared.tree.Child.{Child}
use Rattle.sequence.specs.Cuts.{IsAmong, HasCut, first}
use Rattle.sequence.specs.Nodes.{AreChildren, IsLabelled, first_label, items_in}
use Rattle.sequence.proofs.Nodes.Children.{items_split, length-more, part_child}
use Rattle.sequence.proofs.Nodes.Labelled.{at_behind}
use Rattle.sequence.proofs.Cuts.{Holds, first_part, test_read}

module _ {T L : Type 0} (label_of : T → L) (test : T → Bool) where
  -- what is told by the label of items within a list
  label_within : (l es r all : List T) (label : L) (told : Bool)
      → ((e : T) → label_of e ≡ label → told ≡ test e) → first_label label_of es ≡ Some label
      → all ≡ l ++ (es ++ r) → HasCut test all → told ≡ nat_lt (length l) (first test all)
  label_within l [] r all label told tells is parts has = absurd (none-some label is)
  label_within l (e ∷ es) r all label told tells is parts has =
      tells e (same_Some (label_of e) label is)
      ∙ test_read test all has (length l) e
      (omega (arith, ap (length {A = T}) parts, length-append l (e ∷ (es ++ r))))
      (sym (ap (λ (xs : List T). get_or xs (length l) e) parts ∙ get_or_at l e (es ++ r) e (length l) refl))

  -- and by that of a child
  pub label_read : (cs : List (Child T L)) → AreChildren label_of cs → HasCut test (items_in cs)
      → (i : ℕ) (d : Child T L) → 0 < i → i < length cs → (told : Bool)
      → ((e : T) → label_of e ≡ (get_or cs i d).label → told ≡ test e)
      → told ≡ nat_lt (length (items_in (take i cs))) (first test (items_in cs))
  label_read cs are has i d some within told tells =
      label_within (items_in (take i cs)) (get_or cs i d).tree.0 (items_in (drop (i + 1) cs)) (items_in cs)
      (get_or cs i d).label told tells (at_behind (IsLabelled label_of) cs i d are.labels some within).first
      (items_split cs i d within) has

module _ {T L : Type 0} where
  -- fewer children have no more items
  pub length-sooner : (cs : List (Child T L)) (i j : ℕ) → i ≤ j
      → length (items_in (take i cs)) ≤ length (items_in (take j cs))
  length-sooner cs zero j h = omega arith
  length-sooner [] (suc i) j h = omega arith
  length-sooner (c ∷ cs) (suc i) zero h = absurd (omega (arith, h))
  length-sooner (c ∷ cs) (suc i) (suc j) h =
      omega (
        arith,
        length-sooner cs i j (omega (arith, h)),
        length-append c.tree.0 (items_in (take i cs)),
        length-append c.tree.0 (items_in (take j cs)),
      )

  module _ (test : T → Bool) where
    -- what has the cut under a branch has it under the child
    pub holds_child : (cs : List (Child T L)) (at : ℕ) (d : Child T L) (start next : ℕ) (all : List T) → at < length cs
        → HasCut test all → Holds test (items_in cs) start all
        → IsAmong (length (items_in (take at cs))) (length (items_in (take (at + 1) cs))) (first test (items_in cs))
        → next ≡ start + length (items_in (take at cs)) → Holds test (get_or cs at d).tree.0 next all
    holds_child cs at d start next all within has holds under is =
        let before = length (items_in (take at cs)) in
        let firsts = first_part test (items_in cs) all start has holds in
        record {
          part = part_child cs at d start next all within is holds.part;
          among = record {
            behind = λ some. elim (cases_lt 0 before) [
              | inl more ↦ omega (arith, is, firsts, under.behind more)
              | inr none ↦ omega (arith, is, none, holds.among.behind (omega (arith, is, some, none)))
            ];
            up = omega (arith, is, firsts, under.up, length-more cs at d within);
          };
        }
