-- A `&` to a hidden list is one to the list. Assumes `Logic`.
use mathlib.Core.Path.{refl}
use contract.BorrowLft.{⊑_refl, ⊑_meet, ⊑_static, meet_⊑_left}
use base.Fml.{Incl, Incl-trans}
use denote.RattleType.{RattleType}
use denote.Param.Laws.{Laws, Shares-at}
use Rattle.sequence.specs.Laid.Owned.{list_row}
use Rattle.sequence.specs.contracts.sequence.Sequence.{the_written}
use Rattle.sequence.specs.contracts.label.Unlabelled as unlabelled
use Rattle.sequence.proofs.label.Unlabelled.TheLaws.{the_row_laws as unlabelled_laws}
use Rattle.sequence.specs.contracts.label.UnlabelledLabel.TheImpl as label
use Rattle.sequence.proofs.labelled.LabelledSequence.TheLaws.{the_row_laws as list_laws}
use Rattle.sequence.proofs.sequence.Sequence.TheLaw.Statement.{statement}

within : (T : RattleType) → Incl (the_written T).lives (list_row T).lives
within T = search (⊑_refl, ⊑_meet, ⊑_static, meet_⊑_left) depth 24 fits 20000

pub shares : (T : RattleType) (L : Laws T) → statement T L
shares T L = let K = list_laws T unlabelled.the_row (label.ghosts T) L unlabelled_laws in record {
  shr_laws = K.shr_laws;
  shares = λ M 𝓤 𝓛 d κ ts b o inc sp. Shares-at 𝓛 (list_row T) (the_written T).mir refl (K.shares 𝓛) d κ ts b o
      (Incl-trans inc (within T)) sp;
}
