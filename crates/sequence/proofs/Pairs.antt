-- What comparisons of two iterators over references say of their lists.
use Rattle.std.proofs.Common.{◌≡◌, ◌∙◌, ◌&&◌, Bool, true, false, List, [], ◌∷◌, ap, ap₂, refl, sym}
use Rattle.std.specs.Prelude.{Option, None, Some, IfSome, MatchOption}
use Rattle.std.specs.Borrow.{Bor}
use Rattle.std.specs.Cmp.Lexicographic.{pointwise, slice_partial_cmp}
use Rattle.std.specs.Iterator.{ComparesItemsByEq, YieldsFirstRef, YieldsThen}
use Rattle.std.specs.Iterator.Order.{ComparesItemsByPartialCmp}
use Rattle.std.specs.List.{AllZip}
use Rattle.std.specs.Ordering.{partial_ordering_then}
use Rattle.std.specs.declared.cmp.Ordering.{Ordering}
use Rattle.std.specs.declared.cmp.Ordering.TheVariants.{Less, Equal, Greater}
use Rattle.sequence.specs.Parts.{left}

-- what is not equal decides
decided : (c rest : Option Ordering) → (c ≡ Some Equal → ⊥) → c ≡ partial_ordering_then c rest
decided None rest h = refl
decided (Some Less) rest h = refl
decided (Some Equal) rest h = absurd (h refl)
decided (Some Greater) rest h = refl

module _ {X : Type 0} where
  abbrev pub steps : List X → Option (Bor X) → List X → Type 0
  steps = YieldsFirstRef (λ s. s)

  -- what a call gave, and what it left
  pub left_next : (first : Option (Bor X)) (all rest : List X) → steps all first rest → left first rest ≡ all
  left_next None all rest h = sym h.0
  left_next (Some first) all rest h = sym h

  -- items that a comparison passes over do not decide it
  module _ {R : Type 0} (compare : List X → List X → R) (Ties : X → X → Type 0)
      (pass : (x y : X) (xs ys : List X) → Ties x y → compare (x ∷ xs) (y ∷ ys) ≡ compare xs ys) where
    along : (cs ds : List (Bor X)) (o p : Option (Bor X)) (xs ys u w : List X) → YieldsThen steps xs cs o u
        → YieldsThen steps ys ds p w → AllZip (λ c d. Ties c.now d.now) cs ds
        → compare (left o u) (left p w) ≡ compare xs ys
    along [] [] o p xs ys u w a b ties =
        ap₂ compare (left_next o a.0 u a.2 ∙ sym a.1) (left_next p b.0 w b.2 ∙ sym b.1)
    along [] (d ∷ ds) o p xs ys u w a b ties = absurd ties
    along (c ∷ cs) [] o p xs ys u w a b ties = absurd ties
    along (c ∷ cs) (d ∷ ds) o p xs ys u w a b ties =
        along cs ds o p a.1.0 b.1.0 u w (a.0, a.1.2, a.2) (b.0, b.1.2, b.2) ties.1
        ∙ sym (ap₂ compare a.1.1 b.1.1 ∙ pass c.now d.now a.1.0 b.1.0 ties.0)

  eq_last : (E : X → X → Bool) (r : Bool) (o p : Option (Bor X)) (u w : List X)
      → MatchOption o (MatchOption p (r ≡ true) (λ _. r ≡ false))
      (λ c. (r ≡ false) × IfSome p (λ d. E c.now d.now ≡ false)) → r ≡ pointwise E (left o u) (left p w)
  eq_last E r None None u w h = h
  eq_last E r None (Some d) u w h = h
  eq_last E r (Some c) None u w h = h.0
  eq_last E r (Some c) (Some d) u w h = h.0 ∙ sym (ap (λ b. b && pointwise E u w) h.1)

  cmp_last : (C : X → X → Option Ordering) (r : Option Ordering) (o p : Option (Bor X)) (u w : List X)
      → MatchOption o (MatchOption p (r ≡ Some Equal) (λ _. r ≡ Some Less))
      (λ c. MatchOption p (r ≡ Some Greater) (λ d. (r ≡ C c.now d.now) × (r ≡ Some Equal → ⊥)))
      → r ≡ slice_partial_cmp C (left o u) (left p w)
  cmp_last C r None None u w h = h
  cmp_last C r None (Some d) u w h = h
  cmp_last C r (Some c) None u w h = h
  cmp_last C r (Some c) (Some d) u w h =
      decided r (slice_partial_cmp C u w) h.1 ∙ ap (λ c. partial_ordering_then c (slice_partial_cmp C u w)) h.0

  -- what `into_iter` gives
  abbrev becomes : Bor (List X) → List X → Type 0
  becomes list it = it ≡ list.now

  -- an iterator over one list, and the other list, over which `into_iter` goes
  module _ (mine xs : List X) (other : Bor (List X)) (is : mine ≡ xs) where
    -- `eq` says whether the lists are as long and each pair is equal
    pub pointwise_from_eq : (E : X → X → Bool) (r : Bool)
        → ComparesItemsByEq steps becomes steps mine other (λ c d. E c.now d.now) r → r ≡ pointwise E xs other.now
    pointwise_from_eq E r d =
        eq_last E r d.3 d.4 d.5 d.6 d.11
        ∙ along (pointwise E) (λ x y. E x y ≡ true) (λ x y xs ys e. ap (λ b. b && pointwise E xs ys) e)
        d.1 d.2 d.3 d.4 mine d.0 d.5 d.6 d.8 d.9 d.10
        ∙ ap₂ (pointwise E) is d.7

    -- `partial_cmp` says that the first pair that is not equal decides, and else the lengths do
    pub slice_from_partial_cmp : (C : X → X → Option Ordering) (r : Option Ordering)
        → ComparesItemsByPartialCmp steps becomes steps mine other (λ c d. C c.now d.now) r
        → r ≡ slice_partial_cmp C xs other.now
    slice_from_partial_cmp C r d =
        cmp_last C r d.3 d.4 d.5 d.6 d.11
        ∙ along (slice_partial_cmp C) (λ x y. C x y ≡ Some Equal)
        (λ x y xs ys e. ap (λ c. partial_ordering_then c (slice_partial_cmp C xs ys)) e)
        d.1 d.2 d.3 d.4 mine d.0 d.5 d.6 d.8 d.9 d.10
        ∙ ap₂ (slice_partial_cmp C) is d.7
