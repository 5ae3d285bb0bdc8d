use Rattle.std.proofs.Common.{◌∙◌, ap, inl, inr, refl, sym, true≢false}
use Rattle.std.specs.List.{insert}
use Rattle.sequence.specs.Acts.{puts}
use Rattle.sequence.specs.Nodes.{first_label}
use Rattle.sequence.proofs.Cutting.Acts.{acted_come}
use Rattle.sequence.proofs.Nodes.Labelled.{first_behind}
use Rattle.sequence.proofs.tree.put.PutIn.add.Goals as goal

pub returns-clause-done : goal.returns-clause-done
returns-clause-done g c =
    let es = c.args.items.now.items in
    let test = g.P.Cut.is_before c.args.self.0 in
    let sought = g.P.Seek.is_sought c.args.self.0 in
    let made = g.P.Put.made c.args.self.0 in
    let does = puts sought made (g.P.Put.replaced c.args.self.0) g.P.Put.put_out in
    let at = c.args.place in
    let items =
    c.in-Ok.ensures.items ∙ ap (λ es. insert es at c.into_item.result) c.reserve.ensures.items
    ∙ ap (λ e. insert es at e) c.into_item.ensures in
    rw items (acted_come test does es at c.requires.cut made (c.requires.missed, refl))

pub returns-clause-first : goal.returns-clause-first
returns-clause-first g c labelled =
    let items = c.in-Ok.ensures.items ∙ ap (λ es. insert es c.args.place c.into_item.result) c.reserve.ensures.items in
    elim c.if-place-eq0.either [
      | inl behind ↦ ap (λ es. first_label g.L.Label.label_of es) items ∙ first_behind g.L.Label.label_of
          c.args.items.now.items c.args.place c.into_item.result behind.1 c.requires.cut.within
      | inr not ↦ absurd (true≢false (sym labelled ∙ not))
    ]
