-- Whether a handle stands in a list, and how often.
use Rattle.counting_core.proofs.Names.{◌≡◌, ℕ, ◌+◌, Bool, true, not, nat_eq, List, [], ◌∷◌, ◌++◌, length}
use Rattle.counting_core.proofs.Names.{count_by, if◌then◌else◌, refl, ◌∙◌, ap, arith, list_any, sum_by-cons}
use Rattle.counting_core.proofs.Names.{sum_by_push, length-filter, length-filter_both, without, ◌&&◌, ◌||◌}
use Rattle.counting_core.proofs.Names.{list_any-append, any-filter_same, sym, eqb-true}

abbrev pub has : ℕ → List ℕ → Bool
has h xs = list_any (nat_eq h) xs

abbrev pub one_if : Bool → ℕ
one_if b = if b then 1 else 0

abbrev pub times : ℕ → List ℕ → ℕ
times h xs = count_by (nat_eq h) xs

pub times-cons : (h x : ℕ) (xs : List ℕ) → times h (x ∷ xs) ≡ one_if (nat_eq h x) + times h xs
times-cons h x xs = sum_by-cons (λ (y : ℕ). one_if (nat_eq h y)) x xs

-- a number equals itself
pub nat_eq-same : (a : ℕ) → nat_eq a a ≡ true
nat_eq-same a = grind arith

-- a list has a handle that stands there at least once
pub in-list : (h : ℕ) (xs : List ℕ) → has h xs ≡ not (nat_eq (times h xs) 0)
in-list h [] = refl
in-list h (x ∷ xs) = grind (arith, in-list h xs, times-cons h x xs)

-- one that is pushed is there, and stands there once more
pub has-push : (h n : ℕ) (xs : List ℕ) → has h (xs ++ n ∷ []) ≡ (nat_eq n h || has h xs)
has-push h n xs = grind (arith, list_any-append (nat_eq h) xs (n ∷ []))

pub times-push : (h n : ℕ) (xs : List ℕ) → times h (xs ++ n ∷ []) ≡ times h xs + one_if (nat_eq n h)
times-push h n xs =
    sum_by_push (λ (y : ℕ). one_if (nat_eq h y)) xs n ∙ ap (λ b. times h xs + one_if b) (grind arith)

-- one that is taken out is not
pub has-without : (k h : ℕ) (xs : List ℕ) → has k (without h xs) ≡ (not (nat_eq h k) && has k xs)
has-without k h xs =
    any-filter_same (nat_eq k) (λ j. not (nat_eq h j)) (not (nat_eq h k))
    (λ j e. ap (λ (n : ℕ). not (nat_eq h n)) (sym (eqb-true k j e))) xs

pub times-without : (k h : ℕ) (xs : List ℕ) → times k (without h xs) ≡ (if nat_eq h k then 0 else times k xs)
times-without k h [] = grind arith
times-without k h (x ∷ xs) =
    grind (arith, times-without k h xs, times-cons k x xs, times-cons k x (without h xs))

pub length-without : (h : ℕ) (xs : List ℕ) → length (without h xs) + times h xs ≡ length xs
length-without h xs =
    omega (arith, length-filter (nat_eq h) xs, length-filter_both (nat_eq h) (λ k. not (nat_eq h k)) (λ _. refl) xs)
