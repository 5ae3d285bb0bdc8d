-- As many quarters are passed as there are items before the cut.
use Rattle.std.proofs.Common.{◌+◌, ◌∙◌, ap, arith}
use Rattle.std.specs.Int.{from_bool}
use Rattle.sequence.specs.Cuts.{first}
use Rattle.sequence.proofs.Cuts.{IsQuarter, quarter}
use Rattle.sequence.proofs.tree.cut.quarter_of.Given as given
use Rattle.sequence.proofs.tree.cut.quarter_of.Goals as goal
use Rattle.sequence.proofs.tree.cut.quarter_of.Goals.{After-from-third}

passed : (g : given.Over) (c : After-from-third g) → IsQuarter c.args.at c.args.quarter
    (first (g.C.Cut.is_before c.args.cut.now) c.args.items.now)
    (c.from-first.result + c.from-second.result + c.from-third.result)
passed g c =
    quarter c.args.at c.args.quarter (first (g.C.Cut.is_before c.args.cut.now) c.args.items.now) c.from-first.result
    c.from-second.result c.from-third.result (c.from-first.ensures ∙ ap from_bool c.is_before.ensures)
    (c.from-second.ensures ∙ ap from_bool c.is_before-2.ensures)
    (c.from-third.ensures ∙ ap from_bool c.is_before-3.ensures)

pub overflow_mul-result : goal.overflow_mul-result
overflow_mul-result g c = omega (arith, (passed g c).most, c.requires.within)

pub overflow_add-result-3 : goal.overflow_add-result-3
overflow_add-result-3 g c = omega (arith, (passed g c).most, c.requires.within)

pub returns-clause-within : goal.returns-clause-within
returns-clause-within g c = omega (arith, (passed g c).most, c.requires.within)

pub returns-clause-among : goal.returns-clause-among
returns-clause-among g c = (passed g c).among c.requires.among
