-- The branch has one more child, which `join_if_small` may join with the one beside it.
use Rattle.std.proofs.Common.{◌≡◌, ◌++◌, ◌∷◌, ◌∙◌, [], ap, append-nil, arith, get_or, inl, inr, length}
use Rattle.std.proofs.Common.{length-append, length-set, refl, set, subst, sym}
use Rattle.std.specs.Prelude.{Some}
use Rattle.sequence.specs.Nodes.{AreChildren, IsChild, height_in, items_in}
use Rattle.sequence.specs.Spots.{spliced}
use Rattle.sequence.proofs.Shapes.Beside.{labelled_by_first, more_before, more_behind}
use Rattle.sequence.proofs.Nodes.Children.{items_append}
use Rattle.sequence.proofs.Nodes.Wide.{some_in}
use Rattle.sequence.proofs.Lists.Spliced.{splice_end}
use Rattle.sequence.proofs.tree.insert.beside.Goals as goal

pub join_if_small-requires-clause-children : goal.join_if_small-requires-clause-children
join_if_small-requires-clause-children g c =
    let cs = c.args.children.now.items in
    let are = c.requires.children in
    let part = c.requires.part in
    let d = c.index_mut.result.now in
    let put = c.in_default-insert.ensures.items in
    subst (λ xs. AreChildren g.L.Label.label_of (set xs 1 (record d { label = c.in-Ok.label }))) (sym put)
    (more_before cs c.args.child are (subst (λ h. IsChild h c.args.child) part.level part.whole) c.requires.room _
    (labelled_by_first cs d c.index.result.now c.item.result.now c.in-Ok.label are
    (c.index_mut.ensures.value ∙ ap (λ xs. get_or xs 1 d) put) c.index.ensures c.item.ensures
    (c.in-Ok.ensures c.requires.copies.1))).children

pub returns-then-place-eq0 : goal.returns-then-place-eq0
returns-then-place-eq0 g c =
    let cs = c.args.children.now.items in
    let are = c.requires.children in
    let part = c.requires.part in
    let d = c.index_mut.result.now in
    let put = c.in_default-insert.ensures.items in
    let same = c.join_if_small.ensures.same in
    let labelled = labelled_by_first cs d c.index.result.now c.item.result.now c.in-Ok.label are
    (c.index_mut.ensures.value ∙ ap (λ xs. get_or xs 1 d) put) c.index.ensures c.item.ensures
    (c.in-Ok.ensures c.requires.copies.1) in (
      subst (λ n. items_in c.join_if_small.new.children.items ≡ spliced n 0 c.args.child.tree.0 (items_in cs))
          (sym c.if-place-eq0.true)
          (same.items ∙ ap (λ xs. items_in (set xs 1 (record d { label = c.in-Ok.label }))) put
          ∙ ap (λ es. c.args.child.tree.0 ++ es) labelled.same.items),
      (
        same.height ∙ ap (λ xs. height_in (set xs 1 (record d { label = c.in-Ok.label }))) put
            ∙ (more_before cs c.args.child are (subst (λ h. IsChild h c.args.child) part.level part.whole)
            c.requires.room _ labelled).height,
        same.children,
      ),
    )

pub join_if_small-requires-2-clause-children : goal.join_if_small-requires-2-clause-children
join_if_small-requires-2-clause-children g c =
    let part = c.requires.part in
    subst (AreChildren g.L.Label.label_of) (sym c.in_default-push.ensures.items)
    (more_behind c.args.children.now.items c.args.child c.requires.children
    (subst (λ h. IsChild h c.args.child) part.level part.whole) c.requires.room part.label).children

pub returns : goal.returns
returns g c =
    let cs = c.args.children.now.items in
    let child = c.args.child in
    let part = c.requires.part in
    let same = c.join_if_small-2.ensures.same in
    let put = c.in_default-push.ensures.items in
    let last : c.args.place ≡ length (items_in cs) = elim part.edge [
      | inl first ↦ absurd (omega (arith, first))
      | inr last ↦ last
    ] in (
      subst (λ n. items_in c.join_if_small-2.new.children.items ≡ spliced n 0 child.tree.0 (items_in cs)) (sym last)
          (same.items ∙ ap (λ cs. items_in cs) put ∙ items_append cs (child ∷ [])
          ∙ ap (λ es. items_in cs ++ es) (append-nil child.tree.0) ∙ sym (splice_end (items_in cs) child.tree.0)),
      (
        same.height ∙ ap (λ cs. height_in cs) put ∙ (more_behind cs child c.requires.children
            (subst (λ h. IsChild h child) part.level part.whole) c.requires.room part.label).height,
        same.children,
      ),
    )

pub join_if_small-requires-clause-within : goal.join_if_small-requires-clause-within
join_if_small-requires-clause-within g c =
    let new = record c.index_mut.result.now { label = c.in-Ok.label } in
    omega (
      arith,
      length-set c.insert.new.self.items 1 new,
      ap (λ cs. length cs) c.in_default-insert.ensures.items,
      some_in c.args.children.now.items c.requires.children,
    )

pub overflow_sub-last : goal.overflow_sub-last
overflow_sub-last g c =
    omega (arith, some_in c.args.children.now.items c.requires.children, c.len-last.ensures)

pub join_if_small-requires-2-clause-within : goal.join_if_small-requires-2-clause-within
join_if_small-requires-2-clause-within g c =
    omega (
      arith,
      ap (λ cs. length cs) c.in_default-push.ensures.items,
      length-append c.args.children.now.items (c.args.child ∷ []),
      some_in c.args.children.now.items c.requires.children,
      c.len-last.ensures,
    )

pub returns-in-Err : goal.returns-in-Err
returns-in-Err g c = (c.in-Err.ensures.items, ap (λ child. Some child) c.in-Err.ensures.value_returned)

pub returns-in-Err-push : goal.returns-in-Err-push
returns-in-Err-push g c = (c.in-Err-push.ensures.items, ap (λ child. Some child) c.in-Err-push.ensures.value_returned)

pub returns-in_default : goal.returns-in_default
returns-in_default g c = (refl, refl)
