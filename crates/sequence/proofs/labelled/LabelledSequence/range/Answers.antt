use Rattle.std.specs.Map.Iter.{deref}
use Rattle.sequence.proofs.Lists.Runs.{in_order}
use Rattle.sequence.proofs.labelled.LabelledSequence.range.Goals as goal

pub returns-clause-runs : goal.returns-clause-runs
returns-clause-runs g c = in_order deref
