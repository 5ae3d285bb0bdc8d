use Rattle.std.proofs.Common.{◌∙◌, ◌<◌, ap, arith, length, subst, sym}
use Rattle.sequence.specs.Acts.{IsActed, OfSought, gone}
use Rattle.sequence.specs.Cuts.{HasCut}
use Rattle.sequence.specs.Nodes.{items_under}
use Rattle.sequence.proofs.Lists.Spliced.{length-spliced}
use Rattle.sequence.proofs.labelled.LabelledSequence.act.Goals as goal

pub returns-clause-done : goal.returns-clause-done
returns-clause-done g c =
    let test = g.A.Way.Cut.is_before (g.A.Act.way c.args.act) in
    let does = g.A.Act.does c.args.act in
    let same = rw c.in-Some.is at c.self.view_is in
    subst (λ es. IsActed test does g.A.Act.GROWS g.A.Act.LOSES es c.act.new.self.0 c.in_ok-gone.gone) same
    c.in_ok-gone.ensures.acted

pub act-requires-clause-needs : goal.act-requires-clause-needs
act-requires-clause-needs g c =
    let test = g.A.Way.Cut.is_before (g.A.Act.way c.args.act) in
    let sought = g.A.Way.Seek.is_sought (g.A.Act.way c.args.act) in
    let same = rw c.in-Some.is at c.self.view_is in
    subst (λ es. OfSought sought test (g.A.Act.needs c.args.act) es) (sym same) c.requires.needs

pub invariant_of-self-2 : goal.invariant_of-self-2
invariant_of-self-2 g c =
    let es = c.in-Some.tree.0 in
    let done = c.in_ok-gone.ensures.acted in
    let answer = c.in_ok-gone.gone in
    omega (
      arith,
      c.len_after-self-inside.ensures,
      c.self.invariant ∙ ap (λ root. length (items_under root)) c.in-Some.is,
      done.come,
      length-spliced done.at (gone answer) done.more es done.cut.within,
      ap (λ es. length es) done.items,
    )

pub act-requires-clause-cut : goal.act-requires-clause-cut
act-requires-clause-cut g c =
    let same = ap (λ root. items_under root) (sym c.in-Some.is) ∙ c.self.view_is in
    subst (HasCut (g.A.Way.Cut.is_before (g.A.Act.way c.args.act))) (sym same) c.requires.cut

pub act-requires-clause-spare : goal.act-requires-clause-spare
act-requires-clause-spare g c =
    λ _. subst (λ n. 1 < n) (c.self.invariant ∙ ap (λ root. length (items_under root)) c.in-Some.is) c.if-len-le1.false
