use Rattle.std.proofs.Common.{rules, ◌≡◌, ◌<◌, ◌^◌, ℕ, List, Option, decimal, arith}
use Rattle.std.proofs.lemmas.Grind.{common_steps}
use Rattle.scripts.specs.Line.{space}
use Rattle.scripts.specs.Split.{with_rest}
use Rattle.scripts.proofs.Lines.{no_field, no_space}
use Rattle.scripts.proofs.line.split_field.Goals as goal

pub returns-in_err-number-clause-none : goal.returns-in_err-number-clause-none
returns-in_err-number-clause-none c =
    let none : (number : ℕ) (rest : Option (List ℕ)) → c.args.text.now ≡ with_rest space (decimal number) rest
    → ¬ (number < 2 ^ 32) = no_field c.args.text.now c.in_err-number.ensures.none in
    search (rules, none)

pub returns-then-next-ne32-clause-none : goal.returns-then-next-ne32-clause-none
returns-then-next-ne32-clause-none c =
    no_space c.args.text.now _ _ c.in_ok-number.ensures.number (grind (arith, common_steps))
    (grind (arith, common_steps))
