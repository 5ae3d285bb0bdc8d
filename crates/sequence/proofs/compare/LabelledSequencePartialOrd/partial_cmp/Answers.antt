use Rattle.sequence.proofs.Pairs.{slice_from_partial_cmp}
use Rattle.sequence.proofs.compare.LabelledSequencePartialOrd.partial_cmp.Goals as goal

pub returns : goal.returns
returns g c =
    slice_from_partial_cmp _ c.args.self.now c.args.other c.into_iter.ensures.into_iter_gives g.T.PartialOrd.partial_cmp
    _ c.partial_cmp.ensures.ran
