use Rattle.std.proofs.Common.{◌≡◌, true, sym, ◌∙◌, subst}
use Rattle.cascade.specs.Children.{is_child, is_own_child}
use Rattle.cascade.proofs.child.RefChildMakeRuleNode.make.Goals as goal

pub returns-clause-stands : goal.returns-clause-stands
returns-clause-stands c =
    let child = c.args.self.now in
    let style = c.in_ok-try_new.field-0 in
    let own =
    subst (λ s. is_child child (record { parent = child.parent; source = s; style = style }) ≡ true)
    (sym (c.source.view_is ∙ c.in_ok-source.ensures)) (is_own_child child style) in
    subst (λ node. is_child child node ≡ true) (sym c.in_ok-try_new-2.ensures.made) own
