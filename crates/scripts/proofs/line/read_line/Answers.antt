use Rattle.std.proofs.Common.{rules, ℕ, ◌≡◌, ◌<◌, ◌^◌, [], List, length, refl, arith, length-append}
use Rattle.std.proofs.lemmas.List.Elements.{All-append, All-cons, All-nil}
use Rattle.scripts.specs.Line.{IsLine}
use Rattle.scripts.proofs.Lines.{first_field, no_number, number_first, one_more, too_many}
use Rattle.scripts.proofs.line.read_line.Goals as goal

pub loop-rest-init : goal.loop-rest-init
loop-rest-init c = record {
  read = rw c.new-numbers.ensures
      (first_field c.args.text.now _ _ c.split_once.ensures.first c.split_once.ensures.parts);
  in_range = rw c.new-numbers.ensures (All-nil (λ number. number < 2 ^ 32));
  few = rw c.new-numbers.ensures (omega arith);
}

pub returns-then-is_full-clause-none : goal.returns-then-is_full-clause-none
returns-then-is_full-clause-none c =
    let three : length c.loop-rest.numbers.items ≡ 3 = grind arith in
    too_many c.args.text.now _ c.in-Some.text.now _ (rw c.in-Some.is at c.loop-rest.invariant.read) three

pub returns-in_err-number-clause-none : goal.returns-in_err-number-clause-none
returns-in_err-number-clause-none c =
    let none : (word numbers : List ℕ) → ¬ (IsLine c.args.text.now word numbers) =
    no_number c.args.text.now _ c.in-Some.text.now _ (rw c.in-Some.is at c.loop-rest.invariant.read)
    c.in_err-number.ensures.none in
    search (rules, none)

pub loop-rest-smaller : goal.loop-rest-smaller
loop-rest-smaller c =
    let first = number_first c.in-Some.text.now _ _ c.in_ok-number.ensures.in_range c.in_ok-number.ensures.number in
    rw c.in-Some.is (rw first (omega arith))

pub loop-rest-preserved : goal.loop-rest-preserved
loop-rest-preserved c =
    let first = number_first c.in-Some.text.now _ _ c.in_ok-number.ensures.in_range c.in_ok-number.ensures.number in
    let read = rw first at (rw c.in-Some.is at c.loop-rest.invariant.read) in
    let number = c.in_ok-number.number in
    record {
      read = rw c.push.ensures.items (one_more c.args.text.now _ _ c.loop-rest.numbers.items number _ refl read);
      in_range = rw c.push.ensures.items (All-append (λ number. number < 2 ^ 32) _ _ c.loop-rest.invariant.in_range
          (All-cons (λ number. number < 2 ^ 32) _ [] c.in_ok-number.ensures.in_range
          (All-nil (λ number. number < 2 ^ 32))));
      few = grind (arith, length-append);
    }
