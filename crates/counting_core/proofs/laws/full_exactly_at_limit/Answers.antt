use Rattle.counting_core.proofs.Traces.CloneReads.{full_exactly_at_limit}
use Rattle.counting_core.proofs.laws.full_exactly_at_limit.Goals as goal

pub returns : goal.returns
returns g c = full_exactly_at_limit
