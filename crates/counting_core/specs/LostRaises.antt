-- The number of failed compare-exchanges (lost raises).
use Rattle.std.specs.Prelude.{ℕ, ◌+◌, ◌-◌, ◌*◌, ◌≤◌, Bool, true, false, if◌then◌else◌}
use Rattle.counting_core.specs.declared.step.Answer.{Answer}
use Rattle.counting_core.specs.declared.step.Answer.TheVariants.{Born, Pending, Ended, GivenUp}
use Rattle.counting_core.specs.declared.step.Step.{Step}
use Rattle.counting_core.specs.declared.step.Step.TheVariants.{Raise}
use Rattle.counting_core.specs.Trace.{Trace, Open, Then}
use Rattle.counting_core.specs.Legal.{IsLegal, state}

module _ {V : Type 0} where
  abbrev pub is_lost_raise : Answer V → Step V → Bool
  is_lost_raise Pending (Raise o) = true
  is_lost_raise _ _ = false

  -- a birth or an end
  abbrev pub is_change : Answer V → Step V → Bool
  is_change (Born n) _ = true
  is_change Ended _ = true
  is_change (GivenUp v) _ = true
  is_change _ _ = false

  -- how many answers pass the test, with their steps
  abbrev pub how_many : (Answer V → Step V → Bool) → Trace V → ℕ
  how_many is_it (Open v n limit) = 0
  how_many is_it (Then t s a) = (if is_it a s then 1 else 0) + how_many is_it t

abbrev pub LostRaisesAreBounded : Type 0 → Type 0
LostRaisesAreBounded V =
    (t : Trace V) → IsLegal t → how_many is_lost_raise t ≤ ((state t).owners - 1) * how_many is_change t
