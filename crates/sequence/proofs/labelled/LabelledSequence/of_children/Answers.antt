use Rattle.std.proofs.Common.{◌≡◌, ◌<◌, ◌∙◌, List, [], ◌∷◌, ap, arith, length, refl, sym, subst}
use Rattle.sequence.specs.declared.tree.Child.{Child}
use Rattle.sequence.specs.Nodes.{AreChildren, items_in}
use Rattle.sequence.proofs.Nodes.Children.{children_are, items_only}
use Rattle.sequence.proofs.labelled.LabelledSequence.of_children.Goals as goal
use Rattle.sequence.proofs.labelled.LabelledSequence.of_children.Goals.{in-len1+in_ok-tree-in-len1}
use Rattle.sequence.proofs.labelled.LabelledSequence.of_children.Goals.{in_default+in_ok-own-in_default+in_ok-tree-in_default}

pub of-requires : goal.of-requires
of-requires g c =
    let cs = c.args.children.now in
    subst (AreChildren g.L.Label.label_of) (sym (c.in_ok-own-in_default.ensures (λ a b h. h c.requires.labels)))
    (children_are c.requires.level.height cs c.requires.level.each (omega (arith, c.in_default.len_at_least))
    c.requires.room c.requires.level.labels)

pub returns : goal.returns
returns g c =
    let cs = c.args.children.now in
    elim c.if-children-lt2.branch [
      | in-len1+in_ok-tree-in-len1 w ↦
          ap (λ t. t.0) (w.tree-is ∙ w.in_ok-tree-in-len1.ensures.cases)
          ∙ items_only cs w.only-item.result w.only-item.is (omega arith)
      | in_default+in_ok-own-in_default+in_ok-tree-in_default w ↦
          ap (λ t. t.0) (w.tree-is ∙ w.in_ok-tree-in_default.ensures)
          ∙ ap (λ cs. items_in cs) (w.in_ok-own-in_default.ensures (λ a b h. h c.requires.labels))
    ]

pub invariant_of-result : goal.invariant_of-result
invariant_of-result g c = c.count-len.ensures ∙ ap (λ es. length es) (sym (returns g c))

pub count-len-requires-clause-each : goal.count-len-requires-clause-each
count-len-requires-clause-each g c i d h = (c.requires.level.each i d h).counted

-- there are no items under no children
none : {T L : Type 0} (cs : List (Child T L)) → length cs < 1 → [] ≡ items_in cs
none [] few = refl
none (d ∷ cs) few = absurd (omega (arith, few))

pub returns-in-empty : goal.returns-in-empty
returns-in-empty g c = c.empty.ensures ∙ none c.args.children.now c.in-empty.len_below
