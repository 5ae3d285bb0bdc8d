use Rattle.std.proofs.Common.{◌∙◌, ◌<◌, arith, sym}
use Rattle.sequence.proofs.Lists.Ranges.{length-less, range_last}
use Rattle.sequence.proofs.iter.IterDoubleEndedIterator.next_back.Goals as goal

pub returns-clause-steps : goal.returns-clause-steps
returns-clause-steps g c =
    let some : c.self.inside.from < c.self.inside.to = omega arith in
    sym c.self.view_is ∙ range_last _ c.self.inside.from c.self.inside.to _ some c.numbered.ensures.item

pub returns-clause-goes : goal.returns-clause-goes
returns-clause-goes g c = record {
  on = λ _. (tt, tt, length-less _ _ _ (returns-clause-steps g c));
  keeps = tt;
  rests = λ _. tt;
}
