use Rattle.counting_core.proofs.Traces.SoleHandles.{sole_drop_gives_up}
use Rattle.counting_core.proofs.laws.sole_drop_gives_up.Goals as goal

pub returns : goal.returns
returns g c = sole_drop_gives_up
