-- What a hidden list holds once a `&mut` to the list has ended: what was last written through it.
use Rattle.std.specs.Prelude.{List}
use Rattle.std.specs.Borrow.{Fml, MutBor, RattleType, Lends}
use Rattle.sequence.specs.Laid.Owned.{list_row}
use Rattle.sequence.specs.contracts.sequence.Sequence.{the_row}

abbrev pub LendsList : (R : RattleType) → MutBor (List R.Denot) → MutBor (List R.Denot) → Fml
LendsList R h r = Lends (the_row R) (list_row R) h r (λ w. w)
