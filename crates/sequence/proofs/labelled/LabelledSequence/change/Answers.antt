use Rattle.std.proofs.Common.{◌∙◌, ap, false, subst, sym}
use Rattle.std.specs.Prelude.{slice_get}
use Rattle.std.specs.Fn.{FnOnceTakesAtMut}
use Rattle.std.proofs.lemmas.Option.{same_Some}
use Rattle.sequence.specs.Acts.{IsFound}
use Rattle.sequence.specs.Changes.{KeepsLabel}
use Rattle.sequence.proofs.Cutting.Acts.{says_changed, says_unchanged, still_absent}
use Rattle.sequence.proofs.labelled.LabelledSequence.change.Goals as goal

pub act-requires-clause-needs : goal.act-requires-clause-needs
act-requires-clause-needs g c = λ at there. (c.requires.callable at there, c.requires.keeps at there)

pub returns-in-Ok-clause-changed : goal.returns-in-Ok-clause-changed
returns-in-Ok-clause-changed g c =
    let test = g.C.Cut.is_before c.args.cut in
    let sought = g.C.Seek.is_sought c.args.cut in
    says_changed sought test c.args.self.now c.act.new.self g.F.FnOnce c.args.change false false c.in-Ok.answer
    c.in-Ok.ensures.done

pub returns-in-Ok-clause-absent : goal.returns-in-Ok-clause-absent
returns-in-Ok-clause-absent g c =
    let test = g.C.Cut.is_before c.args.cut in
    let sought = g.C.Seek.is_sought c.args.cut in
    says_unchanged sought test c.args.self.now c.act.new.self g.F.FnOnce c.args.change false false c.in-Ok.answer
    c.in-Ok.ensures.done

pub modify_at-requires-clause-callable : goal.modify_at-requires-clause-callable
modify_at-requires-clause-callable g c =
    let test = g.C.Cut.is_before c.args.cut in
    let sought = g.C.Seek.is_sought c.args.cut in
    let left = c.in-Err.ensures.blocked in
    let found = subst (λ act. IsFound (g.C.Seek.is_sought act.cut) (g.C.Cut.is_before act.cut) c.act.new.self
    c.in-Ok-place.at) c.in-Err.ensures.back c.in-Ok-place.ensures in
    let there = subst (λ es. IsFound sought test es c.in-Ok-place.at) left found in
    let back = sym (ap (λ act. act.change) c.in-Err.ensures.back) in
    λ x e. subst (FnOnceTakesAtMut g.F.FnOnce c.in-Err.act.change) (same_Some there.item x
    (sym there.is ∙ ap (λ es. slice_get es c.in-Ok-place.at) (sym left) ∙ e))
    (subst (λ f. FnOnceTakesAtMut g.F.FnOnce f there.item) back (c.requires.callable c.in-Ok-place.at there))

pub modify_at-requires-clause-keeps : goal.modify_at-requires-clause-keeps
modify_at-requires-clause-keeps g c =
    let test = g.C.Cut.is_before c.args.cut in
    let sought = g.C.Seek.is_sought c.args.cut in
    let left = c.in-Err.ensures.blocked in
    let found = subst (λ act. IsFound (g.C.Seek.is_sought act.cut) (g.C.Cut.is_before act.cut) c.act.new.self
    c.in-Ok-place.at) c.in-Err.ensures.back c.in-Ok-place.ensures in
    let there = subst (λ es. IsFound sought test es c.in-Ok-place.at) left found in
    let back = sym (ap (λ act. act.change) c.in-Err.ensures.back) in
    λ x e. subst (KeepsLabel g.F.FnOnce c.in-Err.act.change g.L.Label.label_of) (same_Some there.item x
    (sym there.is ∙ ap (λ es. slice_get es c.in-Ok-place.at) (sym left) ∙ e))
    (subst (λ f. KeepsLabel g.F.FnOnce f g.L.Label.label_of there.item) back (c.requires.keeps c.in-Ok-place.at there))

pub returns-in-Err-place-clause-absent : goal.returns-in-Err-place-clause-absent
returns-in-Err-place-clause-absent g c = (
  c.in-Err.ensures.blocked,
  still_absent g.C.Seek.is_sought g.C.Cut.is_before
      c.in-Err-place.field-0 (λ i. (c.in-Err.ensures.back i).cut) c.in-Err.ensures.blocked c.in-Err-place.ensures,
)
