-- How many of the numbers below a bound pass a test.
use Rattle.counting_core.proofs.Names.{◌≡◌, ◌≢◌, ℕ, zero, suc, ◌+◌, ◌<◌, ◌≤◌, Bool, true, false, ◌&&◌, if◌then◌else◌}
use Rattle.counting_core.proofs.Names.{nat_eq, List, [], ◌∷◌, length, take, get_or, count_by, refl, sym, ◌∙◌, ap, ap₂}
use Rattle.counting_core.proofs.Names.{arith, true≢false, eqb-true, ne_eqb, subst, add-one, eqb-false, sum_by_more}
use Rattle.counting_core.proofs.Names.{without, put, nat_lt, lt-ltb, number_below}
use Rattle.counting_core.proofs.Traces.Places.{put-all}
use Rattle.counting_core.proofs.Traces.HandleLists.{one_if, times, times-cons, times-without, length-without}

-- no more pass a stricter test
pub number-le : (f g : ℕ → Bool) → ((q : ℕ) → f q ≡ true → g q ≡ true) → (n : ℕ)
    → number_below f n ≤ number_below g n
number-le f g more zero = omega arith
number-le f g more (suc n) = by_last (f n) (g n) (more n) (number-le f g more n) where
  by_last : (a b : Bool) → (a ≡ true → b ≡ true) → number_below f n ≤ number_below g n
      → (if a then 1 else 0) + number_below f n ≤ (if b then 1 else 0) + number_below g n
  by_last true true more le = omega arith
  by_last true false more le = absurd (true≢false (sym (more refl)))
  by_last false true more le = omega arith
  by_last false false more le = omega arith

-- none pass if the test fails always
pub number-none : (n : ℕ) → number_below (λ q. false) n ≡ 0
number-none zero = refl
number-none (suc n) = let rest : number_below (λ q. false) n ≡ 0 = number-none n in omega arith

-- and all if it never does
pub number-all : (n : ℕ) → number_below (λ q. true) n ≡ n
number-all zero = refl
number-all (suc n) = let rest : number_below (λ q. true) n ≡ n = number-all n in omega arith

-- a list in which just the numbers below a bound that pass stand, once each, is as long as those are many
pub number-length : (f : ℕ → Bool) (n : ℕ) (xs : List ℕ) → ((h : ℕ) → times h xs ≡ one_if (nat_lt h n && f h))
    → length xs ≡ number_below f n
number-length f zero [] once = refl
number-length f zero (x ∷ xs) once = absurd (grind (arith, once x, times-cons x x xs))
number-length f (suc n) xs once =
    let here : times n xs ≡ one_if (f n) = once n ∙ ap (λ b. one_if (b && f n)) (lt-ltb n (suc n) (omega arith)) in
    let others : length (without n xs) ≡ number_below f n = number-length f n (without n xs) without_n in
    omega (arith, length-without n xs) where
      without_n : (h : ℕ) → times h (without n xs) ≡ one_if (nat_lt h n && f h)
      without_n h = times-without h n xs ∙ grind (arith, once h)

-- the elements of a list that pass, by their places
pub number-count_by : {A : Type 0} (p : A → Bool) (d : A) (xs : List A) (n : ℕ) → n ≤ length xs
    → number_below (λ i. p (get_or xs i d)) n ≡ count_by p (take n xs)
number-count_by p d xs zero le = refl
number-count_by p d xs (suc n) le =
    let so_far : number_below (λ i. p (get_or xs i d)) n ≡ count_by p (take n xs) = number-count_by p d xs n
    (omega arith) in
    let more : count_by p (take (n + 1) xs) ≡ count_by p (take n xs) + one_if (p (get_or xs n d))
    = sum_by_more (λ x. one_if (p x)) xs n d (omega arith) in
    let next : count_by p (take (n + 1) xs) ≡ count_by p (take (suc n) xs) = ap (λ k. count_by p (take k xs))
    (add-one n) in
    omega arith

-- a test that answers the same below the bound passes as many
number-same : (f g : ℕ → Bool) (n : ℕ) → ((q : ℕ) → q < n → f q ≡ g q) → number_below f n ≡ number_below g n
number-same f g zero same = refl
number-same f g (suc n) same =
    ap₂ (λ b k. (if b then 1 else 0) + k) (same n (omega arith))
    (number-same f g n (λ q lt. same q (omega arith)))

-- how many pass when one place changed
pub number-put : {A : Type 0} (p : A → Bool) (f : ℕ → A) (o : ℕ) (y : A) (n : ℕ) → o < n
    → number_below (λ q. p (put f o y q)) n + one_if (p (f o)) ≡ number_below (λ q. p (f q)) n + one_if (p y)
number-put p f o y zero lt = absurd (omega arith)
number-put p f o y (suc n) lt = at (nat_eq o n) refl (number-put p f o y n) where
  at : (b : Bool) → nat_eq o n ≡ b
      → (o < n → number_below (λ q. p (put f o y q)) n + one_if (p (f o))
      ≡ number_below (λ q. p (f q)) n + one_if (p y))
      → (one_if (p (if b then y else f n)) + number_below (λ q. p (put f o y q)) n) + one_if (p (f o))
      ≡ (one_if (p (f n)) + number_below (λ q. p (f q)) n) + one_if (p y)
  at true e rest =
      let is : o ≡ n = eqb-true o n e in
      let others : number_below (λ q. p (put f o y q)) n ≡ number_below (λ q. p (f q)) n =
      number-same (λ q. p (put f o y q)) (λ q. p (f q)) n (λ q lt. ap (λ b. p (if b then y else f q))
      (ne_eqb o q (λ i. let same : q ≡ n = sym i ∙ is in absurd (omega arith)))) in
      let here : one_if (p (f o)) ≡ one_if (p (f n)) = ap (λ k. one_if (p (f k))) is in
      omega arith
  at false e rest =
      let apart : o ≢ n = eqb-false o n e in
      let so_far : number_below (λ q. p (put f o y q)) n + one_if (p (f o))
      ≡ number_below (λ q. p (f q)) n + one_if (p y) = rest (omega arith) in
      omega arith

-- a stricter test passes one fewer, if one that passed no longer does
pub number-less : (f g : ℕ → Bool) → ((q : ℕ) → f q ≡ true → g q ≡ true) → (o : ℕ)
    → f o ≡ false → (n : ℕ) → o < n → number_below f n + one_if (g o) ≤ number_below g n
number-less f g more o fails n lt =
    let without_o : number_below (put g o false) n + one_if (g o) ≡ number_below g n + 0 =
    number-put (λ b. b) g o false n lt in
    let le : number_below f n ≤ number_below (put g o false) n = number-le f (put g o false)
    (put-all g o false (λ q b. f q ≡ true → b ≡ true) (λ e. absurd (true≢false (sym e ∙ fails)))
    (λ q _. more q)) n in
    omega arith

-- at least one passes if this one does
pub number-some : (f : ℕ → Bool) (o n : ℕ) → f o ≡ true → o < n → 1 ≤ number_below f n
number-some f o n e lt = subst (λ b. one_if b ≤ number_below f n) e
    (let more : number_below (λ q. false) n + one_if (f o) ≤ number_below f n =
    number-less (λ q. false) f (λ q e. absurd (true≢false (sym e))) o refl n lt in omega arith)
