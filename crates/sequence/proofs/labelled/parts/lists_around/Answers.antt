use Rattle.std.proofs.Common.{◌+◌, ◌∙◌, ◌^◌, ◌<◌, ap, arith, length, subst, sym}
use Rattle.std.proofs.lemmas.List.{take_rest}
use Rattle.sequence.specs.Nodes.{AreLevel, items_in}
use Rattle.sequence.proofs.Nodes.Children.{length-parts}
use Rattle.sequence.proofs.Shapes.Halves.{level_drop, level_take}
use Rattle.sequence.proofs.labelled.parts.lists_around.Goals as goal

pub of_children-requires-clause-level : goal.of_children-requires-clause-level
of_children-requires-clause-level g c = level_take c.args.children.now c.args.child c.requires.children

pub of_children-requires-clause-room : goal.of_children-requires-clause-room
of_children-requires-clause-room g c =
    omega (arith, length-parts c.args.children.now c.args.child, c.requires.children.list.room)

pub of_children-requires-2-clause-level : goal.of_children-requires-2-clause-level
of_children-requires-2-clause-level g c =
    let n = c.args.child + 1 in
    subst (λ xs. AreLevel g.L.Label.label_of xs) (sym (take_rest c.args.children.now n))
    (level_drop c.args.children.now n c.requires.children)

pub of_children-requires-2-clause-room : goal.of_children-requires-2-clause-room
of_children-requires-2-clause-room g c =
    let cs = c.args.children.now in
    let n = c.args.child + 1 in
    subst (λ xs. length (items_in xs) < 2 ^ 64) (sym (take_rest cs n))
    (omega (arith, length-parts cs n, c.requires.children.list.room))

pub returns : goal.returns
returns g c =
    let rest = take_rest c.args.children.now (c.args.child + 1) in
    (c.in_ok-front.ensures, c.in_ok-behind.ensures ∙ ap (λ xs. items_in xs) rest)
