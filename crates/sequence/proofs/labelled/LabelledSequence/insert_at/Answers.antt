-- A level more keeps the items.
use Rattle.std.proofs.Common.{◌≡◌, ◌+◌, ◌∷◌, ◌++◌, ◌∙◌, ap, arith, drop, length, sym, take}
use Rattle.std.proofs.lemmas.List.Edits.{length-insert}
use Rattle.sequence.specs.Nodes.{items_under}
use Rattle.sequence.proofs.labelled.LabelledSequence.insert_at.Goals as goal
use Rattle.sequence.proofs.labelled.LabelledSequence.insert_at.Goals.{else-is_full}
use Rattle.sequence.proofs.labelled.LabelledSequence.insert_at.Goals.{then-is_full+in_ok-add_level-in-Some}

pub returns-in-Ok : goal.returns-in-Ok
returns-in-Ok g c =
    let at = c.args.index in
    let item = c.args.item in
    let kept : c.if-is_full.tree.0 ≡ c.in-Some.tree.0 =
    elim c.if-is_full.branch [
      | then-is_full+in_ok-add_level-in-Some w ↦ ap (λ tree. tree.0) w.tree-is ∙ w.add_level.ensures.items
      | else-is_full w ↦ ap (λ tree. tree.0) w.tree-is
    ] in
    let same = kept ∙ ap (λ root. items_under root) (sym c.in-Some.is) ∙ c.self.view_is in
    let place : at + 0 ≡ at = omega arith in
    ap (λ tree. tree.0) c.in-Ok.ensures ∙ (λ i. take at (same i) ++ item ∷ drop (place i) (same i))

pub invariant_of-self-in-Some : goal.invariant_of-self-in-Some
invariant_of-self-in-Some g c =
    let more = length-insert c.args.self.now c.args.index c.args.item c.requires.within in
    omega (
      arith,
      c.self.invariant,
      ap (λ es. length es) c.self.view_is,
      more,
      ap (λ es. length es) (returns-in-Ok g c),
    )

pub returns-in_default : goal.returns-in_default
returns-in_default g c =
    let kept : c.if-is_full.tree.0 ≡ c.in-Some.tree.0 =
    elim c.if-is_full.branch [
      | then-is_full+in_ok-add_level-in-Some w ↦ ap (λ tree. tree.0) w.tree-is ∙ w.add_level.ensures.items
      | else-is_full w ↦ ap (λ tree. tree.0) w.tree-is
    ] in
    ap (λ tree. tree.0) c.in_default.ensures.0 ∙ kept ∙ ap (λ root. items_under root) (sym c.in-Some.is)
    ∙ c.self.view_is

pub invariant_of-self-in_default : goal.invariant_of-self-in_default
invariant_of-self-in_default g c =
    c.self.invariant ∙ ap (λ es. length es) (c.self.view_is ∙ sym (returns-in_default g c))
