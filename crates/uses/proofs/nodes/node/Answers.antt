use Rattle.std.proofs.Common.{sym, inl, inr, refl, ◌∙◌}
use Rattle.servo_arc.specs.HeaderSlice.{HeaderAndItems}
use Rattle.interner.proofs.Symbols.{absent_new, found_at, stands_at}
use Rattle.uses.proofs.SameNode.{same_node}
use Rattle.uses.proofs.nodes.node.Goals as goal

pub returns-in-Some-clause-node : goal.returns-in-Some-clause-node
returns-in-Some-clause-node c =
    let node : HeaderAndItems _ _ = record { header = c.args.kind; items = c.args.children.now } in
    found_at _ c.args.nodes.now node c.in-Some.symbol (sym c.find.ensures ∙ c.in-Some.is) (λ v. (same_node node v).0)

pub returns-in-Some-clause-others : goal.returns-in-Some-clause-others
returns-in-Some-clause-others c = inl refl

pub returns-clause-node : goal.returns-clause-node
returns-clause-node c =
    let node : HeaderAndItems _ _ = record { header = c.args.kind; items = c.args.children.now } in
    stands_at (rw c.in_ok-node.ensures at c.in_ok-symbol.ensures.interned) ((same_node node node).1 refl)
    (λ v. (same_node node v).0)

pub returns-clause-others : goal.returns-clause-others
returns-clause-others c =
    let node : HeaderAndItems _ _ = record { header = c.args.kind; items = c.args.children.now } in
    inr (absent_new _ c.args.nodes.now node (rw c.in_ok-node.ensures at c.in_ok-symbol.ensures.interned)
    (sym c.find.ensures ∙ c.in_default.is) (λ v. refl))
