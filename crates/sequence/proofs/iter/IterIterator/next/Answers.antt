use Rattle.std.proofs.Common.{◌∙◌, ◌<◌, ap, arith, length, sym}
use Rattle.sequence.proofs.Lists.Ranges.{range_first}
use Rattle.sequence.proofs.iter.IterIterator.next.Goals as goal

pub returns-clause-steps : goal.returns-clause-steps
returns-clause-steps g c =
    let some : c.self.inside.from < c.self.inside.to = omega arith in
    sym c.self.view_is ∙ range_first _ c.self.inside.from c.self.inside.to _ some c.numbered.ensures.item

pub returns-clause-goes : goal.returns-clause-goes
returns-clause-goes g c = record {
  on = λ _. (tt, tt, omega (arith, ap (λ xs. length xs) (returns-clause-steps g c)));
  keeps = tt;
  rests = λ _. tt;
}
