use Rattle.std.proofs.Common.{ap}
use Rattle.std.specs.Map.{values_of}
use Rattle.std.specs.Map.Iter.{deref}
use Rattle.std_collections.proofs.IterRuns.{shows_in_order}
use Rattle.maps.proofs.entries.Entries.values.Goals as goal

pub returns-clause-values : goal.returns-clause-values
returns-clause-values g c = ap (λ es. values_of es) c.iter.ensures.entries

pub returns-clause-runs : goal.returns-clause-runs
returns-clause-runs g c = shows_in_order deref
