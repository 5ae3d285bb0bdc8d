-- The items of a list from one number up to another.
use Rattle.std.proofs.Common.{◌≡◌, ℕ, ◌+◌, ◌-◌, ◌<◌, ◌≤◌, List, [], ◌∷◌, ◌++◌}
use Rattle.std.proofs.Common.{max, length, take, drop, get_or, ap, ◌∙◌, suc, arith, length-append}
use Rattle.std.proofs.Common.{length-drop, drop-cons}
use Rattle.std.specs.Prelude.{Some, slice_get, slice_range}
use Rattle.std.proofs.lemmas.List.{get_or-drop, length-take-le, take_all}
use Rattle.std.proofs.lemmas.Option.{slice_get_within, get_or_from_slice_get}
use Rattle.std.proofs.Math.Seq.{take-suc}

module _ {A : Type 0} where
  -- the range of all
  pub range_all : (xs : List A) (n : ℕ) → n ≡ length xs → slice_range xs 0 n ≡ xs
  range_all xs n is = take_all (n - 0) xs (omega arith)

  -- the range up to a number, and the one from it on
  pub range_front : (xs : List A) (n : ℕ) → slice_range xs 0 n ≡ take n xs
  range_front xs n = let same : n - 0 ≡ n = omega arith in ap (λ m. take m xs) same

  pub range_back : (xs : List A) (a n : ℕ) → n ≡ length xs → slice_range xs a n ≡ drop a xs
  range_back xs a n is = take_all (n - a) (drop a xs) (omega (arith, length-drop a xs))

  -- an empty range
  pub range_none : (xs : List A) (a b : ℕ) → a ≡ b → slice_range xs a b ≡ []
  range_none xs a b is = let none : b - a ≡ 0 = omega arith in ap (λ n. take n (drop a xs)) none

  -- a range that ends before it starts
  pub range_most : (xs : List A) (a b : ℕ) → slice_range xs a (max b a) ≡ slice_range xs a b
  range_most xs a b = let same : max b a - a ≡ b - a = omega arith in ap (λ n. take n (drop a xs)) same

  -- how many there are
  pub length-range : (xs : List A) (a b : ℕ) → b ≤ length xs → length (slice_range xs a b) ≡ b - a
  length-range xs a b h = length-take-le (b - a) (drop a xs) (omega (arith, length-drop a xs))

  -- the first one of a range
  pub range_first : (xs : List A) (a b : ℕ) (x : A) → a < b → slice_get xs a ≡ Some x
      → slice_range xs a b ≡ x ∷ slice_range xs (a + 1) b
  range_first xs a b x h is =
      let within : a < length xs = slice_get_within xs a x is in
      let next : suc a ≡ a + 1 = omega arith in
      let split : drop a xs ≡ x ∷ drop (a + 1) xs =
      drop-cons xs a x within ∙ ap (λ y. y ∷ drop (suc a) xs) (get_or_from_slice_get xs a x x is)
      ∙ ap (λ n. x ∷ drop n xs) next in
      let more : b - a ≡ suc (b - (a + 1)) = omega arith in
      ap (λ n. take n (drop a xs)) more ∙ ap (take (suc (b - (a + 1)))) split

  -- the last one of a range
  pub range_last : (xs : List A) (a b : ℕ) (x : A) → a < b → slice_get xs (b - 1) ≡ Some x
      → slice_range xs a b ≡ slice_range xs a (b - 1) ++ x ∷ []
  range_last xs a b x h is =
      let within : b - 1 < length xs = slice_get_within xs (b - 1) x is in
      let left : b - 1 - a < length (drop a xs) = omega (arith, length-drop a xs) in
      let more : b - a ≡ suc (b - 1 - a) = omega arith in
      let place : a + (b - 1 - a) ≡ b - 1 = omega arith in
      let last : get_or (drop a xs) (b - 1 - a) x ≡ x =
      get_or-drop a xs (b - 1 - a) x ∙ ap (λ n. get_or xs n x) place ∙ get_or_from_slice_get xs (b - 1) x x is in
      ap (λ n. take n (drop a xs)) more ∙ take-suc (drop a xs) (b - 1 - a) x left
      ∙ ap (λ y. take (b - 1 - a) (drop a xs) ++ y ∷ []) last

  -- there is one less without the last one
  pub length-less : (xs ys : List A) (x : A) → ys ≡ xs ++ x ∷ [] → length xs < length ys
  length-less xs ys x is = omega (arith, ap (λ l. length l) is, length-append xs (x ∷ []))

pub ruleset ranges = (range_all, range_front, range_back, range_none, length-range, range_first, range_last)
