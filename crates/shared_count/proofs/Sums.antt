-- Sums over the views of all seats, after a step, a split and a join, and over the shares of one seat.
use Rattle.std.proofs.Common.{◌≡◌, ◌≢◌, ℕ, zero, suc, ◌+◌, ◌<◌, ◌≤◌, Bool, true, false, nat_eq, List, [], ◌∷◌, ◌++◌}
use Rattle.std.proofs.Common.{length, get_or, map, set, sym, refl, ap, ◌∙◌, arith, if◌then◌else◌, sum_by}
use Rattle.std.proofs.lemmas.List.Sums.{sum_by-cons, sum_by-set, sum_by_push, get_or-le-sum_by}
use Rattle.std.specs.List.{range_with_len}
use mathlib.Core.Logic.{dite}
use native.Mathlib.Decide.{ℕ_discrete}
use mathlib.Core.Option.{some, some-injective, some-ne-none}
use lib.ListN.{get_elem?}
use Rattle.atomic_table.proofs.Lists.{set_else}
use Rattle.shared_count.specs.Inside.Shares.{Part, Half, Whole, InDrop, Share, halves_in, halves, is_in_drop, drops}
use Rattle.shared_count.specs.Inside.Shares.{all_but_first, first_alone}
use Rattle.shared_count.proofs.Histories.{same_name}

module _ {X : Type 0} where
  -- what stands at a place
  pub record IsAt (l : List X) (i : ℕ) (v : X) : Type 0 where
    pub within : i < length l
    pub is : get_or l i v ≡ v

  pub is_at : (l : List X) (i : ℕ) (v : X) → get_elem? l i ≡ some v → IsAt l i v
  is_at [] i v e = absurd (some-ne-none v (sym e))
  is_at (x ∷ xs) zero v e = record { within = omega arith; is = some-injective x v e }
  is_at (x ∷ xs) (suc i) v e = let r = is_at xs i v e in record { within = omega arith; is = r.is }

  module _ (f : X → ℕ) where
    pub sum-set : (l : List X) (i : ℕ) (v w : X) → get_elem? l i ≡ some v
        → sum_by f (set l i w) + f v ≡ sum_by f l + f w
    sum-set l i v w e =
        let at = is_at l i v e in
        let sum = sum_by-set f l i w v at.within in
        let is : f (get_or l i v) ≡ f v = ap f at.is in
        omega arith

    pub sum-one : (l : List X) (i : ℕ) (v : X) → get_elem? l i ≡ some v → f v ≤ sum_by f l
    sum-one l i v e =
        let at = is_at l i v e in
        let le = get_or-le-sum_by f l i v at.within in
        let is : f (get_or l i v) ≡ f v = ap f at.is in
        omega arith

    pub sum-two : (l : List X) (i j : ℕ) (u v w : X)
        → f w ≡ 0 → j ≢ i → get_elem? l i ≡ some v → get_elem? l j ≡ some u
        → f u + f v ≤ sum_by f l
    sum-two l i j u v w none other ei ej =
        let a = sum-set l i v w ei in
        let b = sum-one (set l i w) j u (set_else l i j w other ∙ ej) in
        omega arith

    -- a split and a join change no sum that is that of its parts
    pub sum-split : (l : List X) (i : ℕ) (v a b : X) → get_elem? l i ≡ some v → f a + f b ≡ f v
        → sum_by f (set l i a ++ b ∷ []) ≡ sum_by f l
    sum-split l i v a b at parts = let x = sum_by_push f (set l i a) b in let y = sum-set l i v a at in omega arith

    pub sum-join : (l : List X) (i j : ℕ) (v w b z : X) → get_elem? l i ≡ some v → get_elem? (set l i b)
        j ≡ some w
        → f z ≡ 0 → f b ≡ f w + f v → sum_by f (set (set l i b) j z) ≡ sum_by f l
    sum-join l i j v w b z at there none parts =
        let x = sum-set l i v b at in let y = sum-set (set l i b) j w z there in omega arith

-- sums over ranges, and over what a range gives
pub sum-none : (f : ℕ → ℕ) (a n : ℕ) → ((p : ℕ) → a ≤ p → p < a + n → f p ≡ 0)
    → sum_by f (range_with_len a n) ≡ 0
sum-none f a zero none = refl
sum-none f a (suc n) none =
    let rest = sum-none f (a + 1) n (λ p low high. none p (omega arith) (omega arith)) in
    let here = none a (omega arith) (omega arith) in
    let sum = sum_by-cons f a (range_with_len (a + 1) n) in
    omega arith

pub sum-alone : (f : ℕ → ℕ) (q a n : ℕ) → ((p : ℕ) → p ≢ q → f p ≡ 0) → a ≤ q → q < a + n
    → sum_by f (range_with_len a n) ≡ f q
sum-alone f q a zero others low high = absurd (omega arith)
sum-alone f q a (suc n) others low high = let sum = sum_by-cons f a (range_with_len (a + 1) n) in
    dite (ℕ_discrete a q)
    (λ same.
    let none = sum-none f (a + 1) n (λ p above below. others p (λ e. omega arith)) in
    let here = ap f same in
    omega arith)
    (λ other.
    let rest = sum-alone f q (a + 1) n others (omega arith) (omega arith) in
    let here = others a other in
    omega arith)

pub sum-map : {X : Type 0} (f : X → ℕ) (g : ℕ → X) (xs : List ℕ)
    → sum_by f (map g xs) ≡ sum_by (λ x. f (g x)) xs
sum-map f g [] = refl
sum-map f g (x ∷ xs) =
    let rest = sum-map f g xs in
    let here = sum_by-cons f (g x) (map g xs) in
    let sum = sum_by-cons (λ y. f (g y)) x xs in
    omega arith

-- the shares of one seat
pub sum-first : (f : Share → ℕ) (v : List Share) → sum_by f (all_but_first v) + sum_by f (first_alone v)
    ≡ sum_by f v
sum-first f [] = refl
sum-first f (s ∷ ss) = let a = sum_by-cons f s ss in let b = sum_by-cons f s [] in omega arith

abbrev pub halves_if : Bool → Part → ℕ
halves_if b part = if b then halves_in part else 0

pub halves-cons : (p : ℕ) (s : Share) (ss : List Share)
    → halves p (s ∷ ss) ≡ halves_if (nat_eq p s.known.name) s.part + halves p ss
halves-cons p s ss = sum_by-cons (λ t. halves_if (nat_eq p t.known.name) t.part) s ss

pub halves-one : (p : ℕ) (s : Share) → halves p (s ∷ []) ≡ halves_if (nat_eq p s.known.name) s.part
halves-one p s = omega arith

pub halves_if-same : (p : ℕ) (part : Part) → halves_if (nat_eq p p) part ≡ halves_in part
halves_if-same p part = same_name p (λ t. halves_if t part ≡ halves_in part) refl

-- two parts with as many halves count the same, and two halves are a whole
pub halves_if-as : (b : Bool) (part part' : Part) → halves_in part ≡ halves_in part'
    → halves_if b part ≡ halves_if b part'
halves_if-as true part part' e = e
halves_if-as false part part' e = refl

pub halves_if-two : (b : Bool) → halves_if b Half + halves_if b Half ≡ halves_if b Whole
halves_if-two true = refl
halves_if-two false = refl

pub halves_in-some : (part : Part) → 0 < halves_in part
halves_in-some Half = omega arith
halves_in-some Whole = omega arith
halves_in-some InDrop = omega arith

-- whether a pass has still to lower the word, as a number
abbrev pub drops_in : Part → ℕ
drops_in part = if is_in_drop part then 1 else 0

pub drops-cons : (s : Share) (ss : List Share) → drops (s ∷ ss) ≡ drops_in s.part + drops ss
drops-cons s ss = sum_by-cons (λ t. drops_in t.part) s ss

pub drops-one : (s : Share) → drops (s ∷ []) ≡ drops_in s.part
drops-one s = omega arith
