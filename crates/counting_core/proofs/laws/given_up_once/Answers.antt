use Rattle.counting_core.proofs.Traces.GivenUp.{given_up_once}
use Rattle.counting_core.proofs.laws.given_up_once.Goals as goal

pub returns : goal.returns
returns g c = given_up_once
