use Rattle.sequence.proofs.Pairs.{pointwise_from_eq}
use Rattle.sequence.proofs.compare.LabelledSequencePartialEq.eq.Goals as goal

pub returns-then-len : goal.returns-then-len
returns-then-len g c =
    pointwise_from_eq _ c.args.self.now c.args.other c.into_iter.ensures.into_iter_gives g.T.PartialEq.eq _
    c.eq.ensures.ran
