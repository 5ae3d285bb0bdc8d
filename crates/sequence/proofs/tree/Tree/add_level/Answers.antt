use Rattle.std.proofs.Common.{◌≡◌, ◌+◌, ◌∙◌, ◌∷◌, ◌++◌, [], ap, append-nil, arith, length, subst, sym}
use Rattle.sequence.specs.Nodes.{AreChildren, height_in, items_in}
use Rattle.sequence.proofs.Shapes.Halves.{child_is, only_is}
use Rattle.sequence.proofs.tree.Tree.add_level.Goals as goal

pub of-requires : goal.of-requires
of-requires g c =
    let child = c.in_ok-child.child in
    let same = c.in_ok-child.ensures.tree ∙ c.in_ok-clone.ensures.cases in
    let items : c.push.new.self.items ≡ child ∷ [] =
    c.in_ok-push.ensures.items ∙ ap (λ cs. cs ++ child ∷ []) c.in_ok-children.ensures.items in
    subst (AreChildren g.L.Label.label_of) (sym items)
    (only_is _ child (child_is c.args.self.now child same (c.in_ok-child.ensures.len ∙ c.requires.len) c.requires.wide)
    (omega (arith, ap (λ t. length t.0) same, c.requires.len, c.ranges.len.fits)))

pub returns-clause-items : goal.returns-clause-items
returns-clause-items g c =
    let child = c.in_ok-child.child in
    ap (λ t. t.0) c.in_ok-self.ensures ∙ ap (λ cs. items_in cs) c.in_ok-push.ensures.items
    ∙ ap (λ cs. items_in (cs ++ child ∷ [])) c.in_ok-children.ensures.items ∙ append-nil child.tree.0
    ∙ ap (λ t. t.0) (c.in_ok-child.ensures.tree ∙ c.in_ok-clone.ensures.cases)

pub returns-clause-height : goal.returns-clause-height
returns-clause-height g c =
    let child = c.in_ok-child.child in
    let level : height_in (child ∷ []) ≡ child.tree.1 + 1 = omega arith in
    ap (λ t. t.1) c.in_ok-self.ensures ∙ ap (λ cs. height_in cs) c.in_ok-push.ensures.items
    ∙ ap (λ cs. height_in (cs ++ child ∷ [])) c.in_ok-children.ensures.items ∙ level
    ∙ ap (λ t. t.1 + 1) (c.in_ok-child.ensures.tree ∙ c.in_ok-clone.ensures.cases)
