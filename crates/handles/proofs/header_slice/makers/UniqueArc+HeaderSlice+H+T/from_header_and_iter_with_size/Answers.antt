use Rattle.std.proofs.Common.{rules}
use Rattle.handles.proofs.Builders.Runs.{builds}
use Rattle.handles.proofs.header_slice.makers.UniqueArc+HeaderSlice+H+T.from_header_and_iter_with_size.Goals as goal

pub returns : goal.returns
returns g c =
    builds _ _ (λ f f' x r called. search rules) _ _ _ _ c.map-results.ensures.source c.args.header c.build.result
    c.build.ensures.built c.build.ensures.failed
