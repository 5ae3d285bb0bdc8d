-- An item of a part of a list.
use Rattle.std.proofs.Common.{◌≡◌, ℕ, ◌+◌, ◌-◌, ◌<◌, ◌≤◌, List, length, ap, ◌∙◌, arith, slice_get}
use Rattle.sequence.specs.Parts.{IsPart}

module _ {E : Type 0} where
  -- all are a part of themselves
  pub part_all : (t : List E) → IsPart t 0 t
  part_all t = record { at = λ k h. let same : k ≡ 0 + k = omega arith in ap (slice_get t) same }

  -- an item of a part by its number among all
  pub part_item : (p : List E) (s : ℕ) (t : List E) (i : ℕ) → IsPart p s t → s ≤ i → i - s < length p
      → slice_get p (i - s) ≡ slice_get t i
  part_item p s t i is from to =
      let place : s + (i - s) ≡ i = omega arith in is.at (i - s) to ∙ ap (slice_get t) place

pub ruleset parts = (part_all, part_item)
