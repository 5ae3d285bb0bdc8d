-- The list as a `LabelledSequence`.
use Rattle.std.specs.Prelude.{List}
use base.Fml.{Fml, Lft, ffalse}
use denote.RattleType.{RattleType}
use denote.RawPtr.{Ptr, block_ptr, null_ptr}
use Rattle.sequence.specs.contracts.label.Unlabelled as unlabelled
use Rattle.sequence.specs.contracts.label.UnlabelledLabel.TheImpl as label
use Rattle.sequence.specs.contracts.labelled.LabelledSequence as sequence

abbrev pub list_row : RattleType → RattleType
list_row R = sequence.the_row R unlabelled.the_row (label.ghosts R)

abbrev pub list_lent : (R : RattleType) → List R.Denot → Ptr → Lft → Fml
list_lent R xs (block_ptr b o) κ = (list_row R).shr_at xs b o κ
list_lent R xs null_ptr κ = ffalse
