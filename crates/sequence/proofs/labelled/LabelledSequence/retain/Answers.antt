use Rattle.std.proofs.Common.{◌≡◌, ◌∙◌, subst, sym}
use Rattle.std.specs.Fn.{CalledAt}
use Rattle.std.specs.List.Retain.{IsFiltered}
use Rattle.sequence.proofs.Lists.Kept.{filtered_all}
use Rattle.sequence.proofs.labelled.LabelledSequence.retain.Goals as goal

pub returns-then-len-clause-kept : goal.returns-then-len-clause-kept
returns-then-len-clause-kept g c =
    let R = CalledAt g.F.FnMut in
    let self = c.args.self.now in
    let items = c.in_ok-items.items in
    let all : items.items ≡ self = filtered_all R c.args.keep self items.items c.in_ok-items.ensures
    (sym items.ok.0 ∙ sym c.len.ensures ∙ c.if-len.true ∙ c.len-2.ensures.count) in
    subst (IsFiltered R c.args.keep self) all c.in_ok-items.ensures

pub returns-clause-kept : goal.returns-clause-kept
returns-clause-kept g c =
    subst (IsFiltered (CalledAt g.F.FnMut) c.args.keep c.args.self.now) (sym c.in_ok-self.ensures)
    c.in_ok-items.ensures
