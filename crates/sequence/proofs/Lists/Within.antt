-- A range of the items of a list that goes past its ends.
use Rattle.std.proofs.Common.{◌≡◌, ℕ, ◌-◌, ◌≤◌, inl, inr, List, [], length, min, max, take, drop, ap, sym, ◌∙◌, arith}
use Rattle.std.proofs.Common.{length-drop}
use Rattle.std.specs.Prelude.{slice_range}
use Rattle.std.proofs.lemmas.Bool.{cases_lt}
use Rattle.std.proofs.lemmas.List.{take_all, drop_all}
use Rattle.std.proofs.Math.Seq.{take-nil}
use Rattle.sequence.proofs.Lists.Ranges.{range_most}

module _ {T : Type 0} where
  -- one that starts at the end or behind it
  range_past : (xs : List T) (a b : ℕ) → length xs ≤ a → slice_range xs a b ≡ []
  range_past xs a b h = ap (λ ys. take (b - a) ys) (drop_all a xs h) ∙ take-nil (b - a)

  -- one that ends behind the end
  range_long : (xs : List T) (a b c : ℕ) → length xs ≤ b → length xs ≤ c → slice_range xs a b ≡ slice_range xs a c
  range_long xs a b c h k =
      take_all (b - a) (drop a xs) (omega (arith, h, length-drop a xs))
      ∙ sym (take_all (c - a) (drop a xs) (omega (arith, k, length-drop a xs)))

  range_end : (xs : List T) (a b n : ℕ) → n ≡ length xs → slice_range xs a (min b n) ≡ slice_range xs a b
  range_end xs a b n is = elim (cases_lt b n) [
    | inl less ↦ let same : min b n ≡ b = omega (arith, less) in ap (λ m. slice_range xs a m) same
    | inr past ↦ range_long xs a (min b n) b (omega (arith, is, past)) (omega (arith, is, past))
  ]

  range_start : (xs : List T) (a b n : ℕ) → n ≡ length xs → slice_range xs (min a n) b ≡ slice_range xs a b
  range_start xs a b n is = elim (cases_lt a n) [
    | inl less ↦ let same : min a n ≡ a = omega (arith, less) in ap (λ m. slice_range xs m b) same
    | inr past ↦
        range_past xs (min a n) b (omega (arith, is, past)) ∙ sym (range_past xs a b (omega (arith, is, past)))
  ]

  -- one that is cut to the items, and ends no sooner than it starts
  pub within : (xs : List T) (a b n : ℕ) → n ≡ length xs
      → slice_range xs (min a n) (max (min b n) (min a n)) ≡ slice_range xs a b
  within xs a b n is =
      range_most xs (min a n) (min b n) ∙ range_start xs a (min b n) n is ∙ range_end xs a b n is
