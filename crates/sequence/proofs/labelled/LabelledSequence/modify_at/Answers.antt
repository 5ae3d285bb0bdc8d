use Rattle.std.proofs.Common.{◌∙◌, ap, sym}
use Rattle.std.specs.Prelude.{slice_get}
use Rattle.sequence.specs.Nodes.{items_under}
use Rattle.sequence.proofs.labelled.LabelledSequence.modify_at.Goals as goal

pub modify-requires-clause-keeps : goal.modify-requires-clause-keeps
modify-requires-clause-keeps g c =
    let same = sym (ap (λ root. items_under root) c.in-Some.is) ∙ c.self.view_is in
    λ x e. c.requires.keeps x (ap (λ es. slice_get es c.args.index) (sym same) ∙ e)
