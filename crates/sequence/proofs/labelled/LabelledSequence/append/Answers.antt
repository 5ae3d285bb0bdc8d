-- The list has as many items as both had.
use Rattle.std.proofs.Common.{◌+◌, ◌∙◌, ap, length, length-append, rules, sym}
use Rattle.sequence.proofs.labelled.LabelledSequence.append.Goals as goal

pub returns-clause-items : goal.returns-clause-items
returns-clause-items g c = search rules

pub invariant_of-self-2 : goal.invariant_of-self-2
invariant_of-self-2 g c =
    let ours = c.self.invariant ∙ ap (λ es. length es) c.self.view_is in
    let theirs = c.other.invariant ∙ ap (λ es. length es) c.other.view_is in
    c.in-Some-checked_add.ensures.1 ∙ (λ i. ours i + theirs i) ∙ sym (length-append c.args.self.now c.args.other)
    ∙ ap (λ es. length es) (sym (returns-clause-items g c))
