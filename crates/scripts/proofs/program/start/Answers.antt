use Rattle.std.proofs.Common.{◌∷◌, [], Err, inr, refl, codes, decimal, arith}
use Rattle.counting_word.specs.CountingWord.{greatest_count}
use Rattle.scripts.specs.declared.fault.Fault.TheVariants.{Memory}
use Rattle.scripts.specs.declared.arguments.Request.TheVariants.{Core}
use Rattle.scripts.proofs.Showing.{did_nothing}
use Rattle.scripts.proofs.program.start.Goals as goal

-- if memory for the arguments is refused, nothing that they may have asked for was done
pub returns-in-Err-clause-wrote : goal.returns-in-Err-clause-wrote
returns-in-Err-clause-wrote g c =
    let words = codes "core" ∷ decimal 1 ∷ [] in
    inr (
      words,
      (
        Err Memory,
        c.report.ensures.status,
        did_nothing words _ (Core 1 greatest_count)
            ([], refl, omega arith, omega arith, refl) _ _ tt,
      ),
    )
