use Rattle.commands.proofs.Changes.{number_stays_table}
use Rattle.commands.proofs.laws.number_of_slots_stays.Goals as goal

pub returns-clause-table : goal.returns-clause-table
returns-clause-table g c = number_stays_table g.T.PartialEq.eq
