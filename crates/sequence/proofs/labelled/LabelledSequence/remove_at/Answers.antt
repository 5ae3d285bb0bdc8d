use Rattle.std.proofs.Common.{◌∙◌, ap, arith, length, slice_get, sym}
use Rattle.std.specs.List.{remove}
use Rattle.std.proofs.lemmas.List.Edits.{length-remove}
use Rattle.sequence.specs.Nodes.{items_under}
use Rattle.sequence.proofs.Lists.Spliced.{remove_spliced}
use Rattle.sequence.proofs.labelled.LabelledSequence.remove_at.Goals as goal

pub returns : goal.returns
returns g c =
    let at = c.args.index in
    let did = c.in_ok-item.ensures in
    let same = c.shrink.ensures.same ∙ ap (λ root. items_under root) (sym c.in-Some.is) ∙ c.self.view_is in (
      ap (λ es. slice_get es at) (sym same) ∙ did.0,
      ap (λ tree. tree.0) did.1 ∙ sym (remove_spliced c.shrink.new.self.0 at) ∙ ap (λ es. remove es at) same,
    )

pub invariant_of-self-2 : goal.invariant_of-self-2
invariant_of-self-2 g c =
    let gone = length-remove c.args.self.now c.args.index c.requires.there in
    omega (arith, c.self.invariant, ap (λ es. length es) c.self.view_is, gone, ap (λ es. length es) (returns g c).1)

pub returns-in-Err : goal.returns-in-Err
returns-in-Err g c =
    ap (λ tree. tree.0) c.in-Err.ensures ∙ ap (λ root. items_under root) (sym c.in-Some-take.is ∙ c.take.ensures.value)
    ∙ c.shrink.ensures.same ∙ ap (λ root. items_under root) (sym c.in-Some.is) ∙ c.self.view_is

pub invariant_of-self-in-Err : goal.invariant_of-self-in-Err
invariant_of-self-in-Err g c =
    c.self.invariant ∙ ap (λ es. length es) (ap (λ root. items_under root) c.in-Some.is ∙ sym c.shrink.ensures.same)
    ∙ ap (λ root. length (items_under root)) (sym c.take.ensures.value ∙ c.in-Some-take.is)
    ∙ ap (λ tree. length tree.0) (sym c.in-Err.ensures)

pub invariant_of-self-in_err-item : goal.invariant_of-self-in_err-item
invariant_of-self-in_err-item g c =
    c.self.invariant ∙ ap (λ es. length es) (ap (λ root. items_under root) c.in-Some.is ∙ sym c.shrink.ensures.same)
    ∙ ap (λ tree. length tree.0) (sym c.in_err-item.ensures)
