use Rattle.counting_word.proofs.Tallies.{runs_are_counted}
use Rattle.counting_word.proofs.laws.runs_are_counted.Goals as goal

pub returns : goal.returns
returns c = runs_are_counted
