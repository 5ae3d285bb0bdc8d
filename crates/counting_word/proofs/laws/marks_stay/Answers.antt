use Rattle.counting_word.proofs.Tallies.{marks_stay}
use Rattle.counting_word.proofs.laws.marks_stay.Goals as goal

pub returns : goal.returns
returns c = marks_stay
