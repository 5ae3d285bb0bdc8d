use Rattle.std.proofs.Common.{rules, ℕ, [], length, ap, arith}
use Rattle.scripts.specs.Number.{IsNumber}
use Rattle.scripts.proofs.Numerals.{number_alone, rest_same}
use Rattle.scripts.proofs.number.parse_number.Goals as goal

pub returns-in_err-number-clause-none : goal.returns-in_err-number-clause-none
returns-in_err-number-clause-none c =
    let none : (n : ℕ) → ¬ (IsNumber c.args.word.now n) = λ n number.
    c.in_err-number.ensures.none n [] (number_alone c.args.word.now n number) in
    search (rules, none)

pub returns-in_default-clause-none : goal.returns-in_default-clause-none
returns-in_default-clause-none c = λ n number.
    let same = rest_same c.args.word.now _ [] _ n c.in_ok-number.ensures.number
    (number_alone c.args.word.now n number) in
    omega (arith, ap length same)
