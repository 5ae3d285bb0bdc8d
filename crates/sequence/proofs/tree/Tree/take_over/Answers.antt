-- The next tree has what this one asks for, and this one stays if that is refused.
use Rattle.std.proofs.Common.{◌++◌, ◌∙◌, ap, refl, subst, sym}
use Rattle.std.specs.Prelude.{is_ok}
use Rattle.sequence.specs.Nodes.{Follows, IsNode, seen}
use Rattle.sequence.proofs.Calls.{passed_on}
use Rattle.sequence.proofs.Nodes.Copied.{made, seen_copy, whole_copy}
use Rattle.sequence.proofs.tree.Tree.take_over.Goals as goal

pub append-requires-clause-whole : goal.append-requires-clause-whole
append-requires-clause-whole g c =
    let node = made g.L.Label.label_of c.args.self.now c.self.inside.root c.in-Ok.node.now c.self.invariant
    c.self.view_is c.in-Ok.ensures.value c.requires.copies in
    (node.whole, subst (IsNode g.L.Label.label_of) (sym c.deref_mut.ensures.value) c.in_ok-other.ensures.1)

pub append-requires-clause-fits : goal.append-requires-clause-fits
append-requires-clause-fits g c =
    let node = made g.L.Label.label_of c.args.self.now c.self.inside.root c.in-Ok.node.now c.self.invariant
    c.self.view_is c.in-Ok.ensures.value c.requires.copies in
    let next = ap (λ node. seen node) c.deref_mut.ensures.value ∙ c.in_ok-other.ensures.0 in
    let own = subst (λ tree. Follows g.L.Label.label_of tree c.args.next c.args.label.now) (sym node.same)
    c.requires.fits in
    subst (λ tree. Follows g.L.Label.label_of (seen c.in-Ok.node.now) tree c.args.label.now) (sym next) own

pub returns-in_err-other : goal.returns-in_err-other
returns-in_err-other g c =
    let node = made g.L.Label.label_of c.args.self.now c.self.inside.root c.in-Ok.node.now c.self.invariant
    c.self.view_is c.in-Ok.ensures.value c.requires.copies in
    let kept = ap (λ node. seen node) (c.make_mut.follows.holds c.in-Ok.node.now (ap (λ r. is_ok r) c.in-Ok.is))
    ∙ node.same in
    passed_on _ _ c.from_residual.result c.in_err-other.field-0.0 c.from_residual.ensures.1
    (kept, (refl, c.in_err-other.ensures))

pub invariant_of-self-in_err-other : goal.invariant_of-self-in_err-other
invariant_of-self-in_err-other g c =
    let node = made g.L.Label.label_of c.args.self.now c.self.inside.root c.in-Ok.node.now c.self.invariant
    c.self.view_is c.in-Ok.ensures.value c.requires.copies in
    subst (IsNode g.L.Label.label_of) (sym (c.make_mut.follows.holds _ (ap (λ r. is_ok r) c.in-Ok.is))) node.whole

pub invariant_of-self-in-Err : goal.invariant_of-self-in-Err
invariant_of-self-in-Err g c =
    let node = made g.L.Label.label_of c.args.self.now c.self.inside.root c.in-Ok.node.now c.self.invariant
    c.self.view_is c.in-Ok.ensures.value c.requires.copies in
    subst (IsNode g.L.Label.label_of) (sym (c.make_mut.follows.holds _ (ap (λ r. is_ok r) c.in-Ok.is)))
    (whole_copy g.L.Label.label_of c.in-Ok.node.now _ node.whole c.in-Err.ensures.0)

pub invariant_of-result : goal.invariant_of-result
invariant_of-result g c =
    subst (IsNode g.L.Label.label_of) (sym c.shareable.ensures)
    (whole_copy g.L.Label.label_of c.deref_mut.result.now _
    (subst (IsNode g.L.Label.label_of) (sym c.deref_mut.ensures.value) c.in_ok-other.ensures.1) c.in-Err.ensures.1.0)

pub returns-in-Err : goal.returns-in-Err
returns-in-Err g c =
    let node = made g.L.Label.label_of c.args.self.now c.self.inside.root c.in-Ok.node.now c.self.invariant
    c.self.view_is c.in-Ok.ensures.value c.requires.copies in
    let next = ap (λ node. seen node) c.deref_mut.ensures.value ∙ c.in_ok-other.ensures.0 in (
      ap (λ node. seen node) (c.make_mut.follows.holds _ (ap (λ r. is_ok r) c.in-Ok.is))
          ∙ seen_copy c.in-Ok.node.now _ c.in-Err.ensures.0 ∙ node.same,
      (
        c.in-Err.ensures.1.1,
        ap (λ node. seen node) c.shareable.ensures
            ∙ seen_copy c.deref_mut.result.now _ c.in-Err.ensures.1.0 ∙ next,
      ),
    )

pub invariant_of-self-2 : goal.invariant_of-self-2
invariant_of-self-2 g c =
    subst (IsNode g.L.Label.label_of) (sym (c.make_mut.follows.holds _ (ap (λ r. is_ok r) c.in-Ok.is)))
    c.in_default-append.ensures.0

pub returns : goal.returns
returns g c =
    let node = made g.L.Label.label_of c.args.self.now c.self.inside.root c.in-Ok.node.now c.self.invariant
    c.self.view_is c.in-Ok.ensures.value c.requires.copies in
    let next = ap (λ node. seen node) c.deref_mut.ensures.value ∙ c.in_ok-other.ensures.0 in
    ap (λ node. seen node) (c.make_mut.follows.holds _ (ap (λ r. is_ok r) c.in-Ok.is))
    ∙ c.in_default-append.ensures.1 ∙ (λ i. ((node.same i).0 ++ (next i).0, (node.same i).1))
