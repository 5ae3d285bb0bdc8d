use Rattle.unions.proofs.UnionChanges.{number_stays_union}
use Rattle.unions.proofs.laws.number_of_slots_stays.Goals as goal

pub returns : goal.returns
returns g c = number_stays_union g.A.PartialEq.eq g.B.PartialEq.eq
