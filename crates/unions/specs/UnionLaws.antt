-- The equality, the orders and the hash of unions satisfy the laws that those of the values satisfy.
use Rattle.std.specs.Prelude.{◌≡◌, Bool, true, false, Option, Some, IsTrue, refl, pos, ◌++◌}
use Rattle.std.proofs.Common.{true≢false, sym, ap}
use Rattle.std.specs.Bool.{Decides}
use Rattle.std.specs.Option.{option_map}
use Rattle.std.specs.declared.cmp.Ordering.{Ordering}
use Rattle.std.specs.declared.cmp.Ordering.TheVariants.{Less, Equal}
use Rattle.std.specs.Ordering.{ordering_reverse, is_eq, is_lt, is_gt, is_some_and}
use Rattle.std.specs.Hash.{HashWrites, isize}
use Rattle.std.specs.Cmp.{IsPartialEquivalence, IsEquivalence, IsPartialOrder, IsTotalOrder, Agrees, equiv}
use Rattle.std.specs.Cmp.{partial_equiv_from_equiv, total, ties}
use Rattle.unions.specs.Unions.{Union, First, Second, union_eq, union_partial_cmp, union_cmp, union_hash_input}

apart : {P : Type 0} → false ≡ true → P
apart e = absurd (true≢false (sym e))

module _ {A B : Type 0} {R : A → A → Bool} {S : B → B → Bool}
    (r : IsPartialEquivalence R) (s : IsPartialEquivalence S) where
  flipped : (u v : Union A B) → union_eq R S u v ≡ union_eq R S v u
  flipped (First a) (First x) = r.symm a x
  flipped (First a) (Second y) = refl
  flipped (Second b) (First x) = refl
  flipped (Second b) (Second y) = s.symm b y

  chained : (u v w : Union A B)
      → union_eq R S u v ≡ true → union_eq R S v w ≡ true → union_eq R S u w ≡ true
  chained (First a) (First x) (First p) h k = r.trans a x p h k
  chained (First a) (First x) (Second q) h k = k
  chained (First a) (Second y) w h k = apart h
  chained (Second b) (First x) w h k = apart h
  chained (Second b) (Second y) (First p) h k = k
  chained (Second b) (Second y) (Second q) h k = s.trans b y q h k

  pub union_eq_per : IsPartialEquivalence (union_eq R S)
  union_eq_per = record { symm = flipped; trans = chained }

module _ {A B : Type 0} {R : A → A → Bool} {S : B → B → Bool} (r : IsEquivalence R) (s : IsEquivalence S) where
  itself : (u : Union A B) → union_eq R S u u ≡ true
  itself (First a) = r.refl a
  itself (Second b) = s.refl b

  pub union_eq_equiv : IsEquivalence (union_eq R S)
  union_eq_equiv = equiv (union_eq_per (partial_equiv_from_equiv r) (partial_equiv_from_equiv s)) itself

pub union_agrees : {A B : Type 0} {C : A → A → Option Ordering} {D : B → B → Option Ordering}
    {F : A → A → Ordering} {G : B → B → Ordering} → Agrees C F → Agrees D G
    → Agrees (union_partial_cmp C D) (union_cmp F G)
union_agrees f g (First a) (First x) = f a x
union_agrees f g (First a) (Second y) = refl
union_agrees f g (Second b) (First x) = refl
union_agrees f g (Second b) (Second y) = g b y

module _ {A B : Type 0} {R : A → A → Bool} {S : B → B → Bool}
    {C : A → A → Option Ordering} {D : B → B → Option Ordering}
    (r : IsPartialOrder R C) (s : IsPartialOrder S D) where
  turned : (u v : Union A B) → union_partial_cmp C D u v ≡ option_map ordering_reverse (union_partial_cmp C D v u)
  turned (First a) (First x) = r.antisymm a x
  turned (First a) (Second y) = refl
  turned (Second b) (First x) = refl
  turned (Second b) (Second y) = s.antisymm b y

  before : (u v w : Union A B) → union_partial_cmp C D u v ≡ Some Less → union_partial_cmp C D v w ≡ Some Less
      → union_partial_cmp C D u w ≡ Some Less
  before (First a) (First x) (First p) h k = r.trans a x p h k
  before (First a) (First x) (Second q) h k = refl
  before (First a) (Second y) (First p) h k = absurd (true≢false (ap (is_some_and is_gt) k))
  before (First a) (Second y) (Second q) h k = refl
  before (Second b) (First x) w h k = absurd (true≢false (ap (is_some_and is_gt) h))
  before (Second b) (Second y) (First p) h k = k
  before (Second b) (Second y) (Second q) h k = s.trans b y q h k

  level : (u v : Union A B) → Decides (union_eq R S u v) (union_partial_cmp C D u v ≡ Some Equal)
  level (First a) (First x) = r.matches_eq a x
  level (First a) (Second y) = (apart, λ e. absurd (true≢false (ap (is_some_and is_lt) e)))
  level (Second b) (First x) = (apart, λ e. absurd (true≢false (ap (is_some_and is_gt) e)))
  level (Second b) (Second y) = s.matches_eq b y

  alike : (u v w : Union A B) → union_eq R S u v ≡ true → union_partial_cmp C D u w ≡ union_partial_cmp C D v w
  alike (First a) (First x) (First p) h = r.congr a x p h
  alike (First a) (First x) (Second q) h = refl
  alike (First a) (Second y) w h = apart h
  alike (Second b) (First x) w h = apart h
  alike (Second b) (Second y) (First p) h = refl
  alike (Second b) (Second y) (Second q) h = s.congr b y q h

  pub union_po : IsPartialOrder (union_eq R S) (union_partial_cmp C D)
  union_po = record { antisymm = turned; trans = before; matches_eq = level; congr = alike }

  module _ {F : A → A → Ordering} {G : B → B → Ordering} (f : Agrees C F) (g : Agrees D G) where
    pub union_total : IsTotalOrder (union_cmp F G)
    union_total = total union_po (union_agrees f g)

    pub union_ties : (u v : Union A B) → union_eq R S u v ≡ is_eq (union_cmp F G u v)
    union_ties = ties union_po (union_agrees f g)

pub union_respects_eq : {A B : Type 0} {R : A → A → Bool} {S : B → B → Bool}
    {F : A → HashWrites} {G : B → HashWrites} → ((a x : A) → IsTrue (R a x) → F a ≡ F x)
    → ((b y : B) → IsTrue (S b y) → G b ≡ G y)
    → (u v : Union A B) → IsTrue (union_eq R S u v) → union_hash_input F G u ≡ union_hash_input F G v
union_respects_eq f g (First a) (First x) h = ap (λ w. isize (pos 0) ++ w) (f a x h)
union_respects_eq f g (First a) (Second y) h = apart h
union_respects_eq f g (Second b) (First x) h = apart h
union_respects_eq f g (Second b) (Second y) h = ap (λ w. isize (pos 1) ++ w) (g b y h)
