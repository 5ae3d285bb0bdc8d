use Rattle.handles.proofs.Builders.TryRuns.{builds_good}
use Rattle.handles.proofs.header_slice.makers.UniqueArc+HeaderSlice+H+T.try_from_header_and_iter.Goals as goal

pub returns : goal.returns
returns g c =
    builds_good _ _ _ g.E.From.from_gives c.args.header _ _ c.len-num_items.ensures.value c.build.result
    c.build.ensures.built c.build.ensures.failed
