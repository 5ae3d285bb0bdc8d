use Rattle.std.proofs.Common.{◌∙◌, ap, drop, length, sym, take}
use Rattle.std.proofs.Math.Seq.{drop-length, take-length}
use Rattle.sequence.specs.Nodes.{items_under}
use Rattle.sequence.proofs.labelled.LabelledSequence.split_off_at.Goals as goal

pub returns-then-at-len : goal.returns-then-at-len
returns-then-at-len g c =
    let es = c.args.self.now in
    let all = c.if-at-len.true ∙ c.len.ensures.count in (
      c.empty-then-at-len.ensures ∙ sym (ap (λ n. drop n es) all ∙ drop-length es),
      sym (ap (λ n. take n es) all ∙ take-length es),
    )

pub invariant_of-drop : goal.invariant_of-drop
invariant_of-drop g c =
    c.self.invariant ∙ ap (λ root. length (items_under root)) c.in-Some.is
    ∙ ap (λ es. length es) (sym c.in_default-split_if_wide.ensures)
