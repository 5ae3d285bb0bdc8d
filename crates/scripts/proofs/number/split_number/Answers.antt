use Rattle.std.proofs.Common.{◌≡◌, get_or, arith}
use borrow.Author.Count.{below_more}
use Rattle.std.specs.Int.{IsInRange}
use Rattle.std.proofs.lemmas.Grind.{common_steps}
use Rattle.std.proofs.lemmas.Int.Digits.{digits_value_more}
use Rattle.std.proofs.lemmas.List.{get_or_past, take_rest}
use Rattle.std.proofs.lemmas.Str.{digit_value_digit}
use Rattle.scripts.proofs.Numerals.{begins_digit, begins_leading, begins_so_far, begins_with, digits_at_most}
use Rattle.scripts.proofs.number.split_number.Goals.{then-loop-count-test+else-is_ascii_digit}
use Rattle.scripts.proofs.number.split_number.Goals.{else-loop-count-test}
use Rattle.scripts.proofs.number.split_number.Goals.{else-text-eq48-via-then-text-eq48+else-count-gt1}
use Rattle.scripts.proofs.number.split_number.Goals.{else-text-eq48-via-else-text-eq48}
use Rattle.scripts.proofs.number.split_number.Goals as goal

pub returns-then-value-from-clause-none : goal.returns-then-value-from-clause-none
returns-then-value-from-clause-none c = λ n rest begins.
    let here : IsInRange 48 57 (get_or c.args.text.now c.loop-count.count 0) = grind (arith, common_steps) in
    let digits = below_more (λ k. IsInRange 48 57 (get_or c.args.text.now k 0)) c.loop-count.count
    c.loop-count.invariant.digits here in
    let small = begins_so_far c.args.text.now rest n begins c.loop-count.count digits in
    let worth = digit_value_digit (get_or c.args.text.now c.loop-count.count 0) here in
    grind (arith, common_steps)

pub loop-count-preserved : goal.loop-count-preserved
loop-count-preserved c =
    let here : IsInRange 48 57 (get_or c.args.text.now c.loop-count.count 0) = grind (arith, common_steps) in
    let more = digits_value_more 10 c.args.text.now c.loop-count.count (omega arith) in
    let worth = digit_value_digit (get_or c.args.text.now c.loop-count.count 0) here in
    record {
      digits = below_more (λ k. IsInRange 48 57 (get_or c.args.text.now k 0)) c.loop-count.count
          c.loop-count.invariant.digits here;
      value = grind (arith, common_steps);
      in_range = grind (arith, common_steps);
      within = omega arith;
    }

pub returns-then-count-eq0-clause-none : goal.returns-then-count-eq0-clause-none
returns-then-count-eq0-clause-none c = λ n rest begins.
    let digit = begins_digit c.args.text.now rest n begins in
    elim c.loop-count-test.branch [
      | then-loop-count-test+else-is_ascii_digit w ↦ grind (arith, common_steps)
      | else-loop-count-test w ↦
          let past = get_or_past c.args.text.now 0 0 (omega arith) in
          omega arith
    ]

pub returns-then-count-gt1-clause-none : goal.returns-then-count-gt1-clause-none
returns-then-count-gt1-clause-none c = λ n rest begins.
    let zero_first : get_or c.args.text.now 0 0 ≡ 48 = grind (arith, common_steps) in
    let one = begins_leading c.args.text.now rest n begins zero_first in
    let most = digits_at_most c.args.text.now rest n begins c.loop-count.count c.loop-count.invariant.digits in
    omega arith

pub returns-clause-number : goal.returns-clause-number
returns-clause-number c =
    let ends : ¬ (IsInRange 48 57 (get_or c.args.text.now c.loop-count.count 0)) = λ digit.
    elim c.loop-count-test.branch [
      | then-loop-count-test+else-is_ascii_digit w ↦ grind (arith, common_steps)
      | else-loop-count-test w ↦
          let past = get_or_past c.args.text.now c.loop-count.count 0 (omega arith) in
          omega arith
    ] in
    let leading : get_or c.args.text.now 0 0 ≡ 48 → c.loop-count.count ≡ 1 = λ zero_first.
    elim c.else-text-eq48.branch [
      | else-text-eq48-via-then-text-eq48+else-count-gt1 w ↦ omega arith
      | else-text-eq48-via-else-text-eq48 w ↦ grind (arith, common_steps)
    ] in
    let begins = begins_with c.args.text.now c.loop-count.count c.loop-count.invariant.digits (omega arith)
    (omega arith) leading (omega (arith, c.loop-count.invariant.value)) ends in
    rw (take_rest c.args.text.now c.loop-count.count) (rw c.loop-count.invariant.value at begins)
