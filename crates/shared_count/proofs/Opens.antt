-- The passes that a count is opened with.
use Rattle.std.proofs.Common.{◌≡◌, ◌≢◌, ne_eqb, ℕ, zero, suc, ◌+◌, ◌-◌, ◌<◌, ◌≤◌, Bool, false, nat_eq, List, [], ◌∷◌}
use Rattle.std.proofs.Common.{◌++◌, map, sym, refl, ap, ◌∙◌, subst, arith, All, sum_by}
use Rattle.std.specs.List.{range_with_len}
use Rattle.std.proofs.lemmas.List.Elements.{All-from_get_or}
use Rattle.std.proofs.lemmas.List.FromFn.{length-range_with_len, length-map-range_with_len, get_or-map-range_with_len}
use Rattle.std.proofs.lemmas.List.FromFn.{map-range_with_len_more}
use mathlib.Core.Logic.{dite}
use native.Mathlib.Decide.{dec_le}
use mathlib.Core.Option.{some, some-injective, some-ne-none}
use lib.ListN.{get_elem?}
use Rattle.atomic_table.specs.Table.{opening as start}
use Rattle.atomic_table.specs.Seated.{TableId}
use Rattle.counting_word.specs.CountingWord.{StandsFor}
use Rattle.counting_word.proofs.Words.{stands-new}
use Rattle.shared_count.specs.Inside.Shares.{Whole, Share, known, share, newcomers, halves, drops, all_but_first}
use Rattle.shared_count.specs.Inside.Shares.{first_alone}
use Rattle.shared_count.specs.History.{owned_by}
use Rattle.shared_count.specs.Passes.{CountId, Pass, first_pass, handles}
use Rattle.shared_count.specs.Inside.Rule.{Knows, Keeps}
use Rattle.shared_count.specs.Inside.Steps.{SeatState, with_shares, with_part}
use Rattle.shared_count.specs.Inside.Seats.{pass_of, IsPass}
use Rattle.shared_count.proofs.Histories.{one_if, one_if-same, one_if-other, others-refl}
use Rattle.shared_count.proofs.Sums.{sum-none, sum-alone, sum-map, halves_if, halves_if-same}

-- what holds of each of the first n holds of all
all_first : {X : Type 0} (P : X → Type 0) (f : ℕ → X) (n : ℕ) → ((i : ℕ) → i < n → P (f i))
    → All P (map f (range_with_len 0 n))
all_first P f n each = All-from_get_or P (map f (range_with_len 0 n)) (f 0) (λ i within.
    let low : i < n = subst (λ (k : ℕ). i < k) (length-map-range_with_len f 0 n) within in
    subst P (sym (get_or-map-range_with_len f 0 n i i (f 0) low (omega arith))) (each i low))

halves-newcomers : (x n : ℕ) → halves x (newcomers n 0 n) ≤ 2
halves-newcomers x n =
    let sum = sum-map (λ s. halves_if (nat_eq x s.known.name) s.part) (λ p. share (known n p []) Whole)
    (range_with_len 0 n) in
    let none = (λ (p : ℕ) (other : x ≢ p). ap (λ (b : Bool). halves_if b Whole) (ne_eqb x p other)) in
    dite (dec_le n x)
    (λ high. let all = sum-none (λ p. halves_if (nat_eq x p) Whole) 0 n (λ p low below. none p (λ e. omega arith)) in
    omega arith)
    (λ low. let all = sum-alone (λ p. halves_if (nat_eq x p) Whole) x 0 n (λ p other. none p (λ e. other (sym e)))
    (omega arith) (omega arith) in
    let same = halves_if-same x Whole in omega arith)

know-newcomers : (n : ℕ) → All (Knows n []) (newcomers n 0 n)
know-newcomers n = all_first (Knows n []) (λ p. share (known n p []) Whole) n
    (λ p low. record { opened = refl; begins = others-refl p []; owns = λ e. absurd (cc) })

only_seat : (n j : ℕ) (v : List Share) → get_elem? (newcomers n 0 n ∷ []) j ≡ some v → All (Knows n []) v
only_seat n zero v e = subst (All (Knows n [])) (some-injective (newcomers n 0 n) v e) (know-newcomers n)
only_seat n (suc j) v e = absurd (some-ne-none v (sym e))

-- the word n stands for a new count of n passes
pub opens : (n : ℕ) → n < 9223372036854775808 → Keeps n (start (n ∷ []) [] (newcomers n 0 n))
opens n small = record {
  log = [];
  legal = tt;
  one_word = refl;
  word = subst (λ (live : ℕ). StandsFor n false live (sum_by drops (newcomers n 0 n ∷ [])))
      (sym (length-range_with_len 0 n)) (stands-new n (sum_by drops (newcomers n 0 n ∷ [])) small);
  seats = only_seat n;
  apart = λ p. let few = halves-newcomers p n in omega arith;
}

pub owns_one : (n name : ℕ) → name < n → owned_by n name [] ≡ 1
owns_one n name low =
    sum-alone (λ p. one_if (nat_eq name p)) name 0 n (λ p other. one_if-other name p (λ e. other (sym e)))
    (omega arith) (omega arith) ∙ one_if-same name

-- each of the passes owns one handle
pub own_one : (c : CountId) (passes : List Pass) → passes ≡ map (first_pass c) (range_with_len 0 c.passes)
    → All (λ p. handles p ≡ 1) passes
own_one c passes are = subst (All (λ p. handles p ≡ 1)) (sym are)
    (all_first (λ p. handles p ≡ 1) (first_pass c) c.passes (owns_one c.passes))

-- the pass of this name is dealt
module _ (n name : ℕ) (low : name < n) (before seat : SeatState)
    (is : before ≡ with_shares (newcomers n name (n - name))) where
  next_one : newcomers n name (n - name) ≡ share (known n name []) Whole ∷ newcomers n (name + 1) (n - (name + 1))
  next_one = let e : n - name ≡ suc (n - (name + 1)) = omega arith in ap (newcomers n name) e

  pub dealt : seat ≡ (first_alone before.0, []) → seat ≡ with_part (known n name []) Whole
  dealt e = e ∙ ap (λ (m : SeatState). with_shares (first_alone m.0)) (is ∙ ap with_shares next_one)

  pub new_pass : seat ≡ (first_alone before.0, []) → IsPass seat 1
  new_pass e = subst (λ m. IsPass m 1) (sym (dealt e))
      (record { whole = refl; legal = tt; owns = sym (owns_one n name low) })

  pub left_over : (after : SeatState) → after ≡ (all_but_first before.0, before.1)
      → after ≡ with_shares (newcomers n (name + 1) (n - (name + 1)))
  left_over after e = e ∙ ap (λ (m : SeatState). (all_but_first m.0, m.1)) (is ∙ ap with_shares next_one)

-- one more pass was made
pub grown : (n name : ℕ) (table table' : TableId) (m : SeatState) (now was : List Pass) → table' ≡ table
    → m ≡ with_part (known n name []) Whole → now ≡ was ++ pass_of table' m ∷ []
    → was ≡ map (first_pass (record { table = table; passes = n })) (range_with_len 0 name)
    → now ≡ map (first_pass (record { table = table; passes = n })) (range_with_len 0 (name + 1))
grown n name table table' m now was here is e before =
    e ∙ ap (λ (l : List Pass). l ++ pass_of table' m ∷ []) before
    ∙ ap (λ (z : TableId). made ++ pass_of z m ∷ []) here
    ∙ ap (λ (z : SeatState). made ++ pass_of table z ∷ []) is
    ∙ sym (map-range_with_len_more (first_pass c) 0 name name (omega arith)) where
      c : CountId
      c = record { table = table; passes = n }

      made : List Pass
      made = map (first_pass c) (range_with_len 0 name)
