use Rattle.std.proofs.Common.{◌≡◌, ◌≤◌, ◌∙◌, List, [], ◌∷◌, ap, arith, get_or, length, sym}
use Rattle.std.proofs.Math.Nat.{pow-le-pow_right}
use Rattle.sequence.proofs.Nodes.Wide.{height_some}
use Rattle.sequence.proofs.tree.Tree.into_only.Goals as goal

pub unreachable-requires : goal.unreachable-requires
unreachable-requires g c =
    let tree = c.args.self in
    let branch = sym c.into_inner.ensures ∙ c.in-Branch.is in
    let same = rw branch at c.in_ok-into_own.ensures.0 in
    let high = height_some c.in-Branch.field-0.items (rw branch at c.in_ok-into_own.ensures.1) in
    let up : 1 ≤ tree.1 = omega (arith, high, ap (λ t. t.1) same) in
    omega (arith, c.requires.one, c.requires.wide, pow-le-pow_right {n = 2} (omega arith) up)

-- a list of one item
only : {T : Type 0} (es : List T) (e : T) → e ≡ get_or es 0 e → length es ≡ 1 → es ≡ e ∷ []
only [] e is one = absurd (omega (arith, one))
only (d ∷ []) e is one = ap (λ x. x ∷ []) (sym is)
only (d ∷ f ∷ es) e is one = absurd (omega (arith, one))

pub returns : goal.returns
returns g c =
    let branch = sym c.into_inner.ensures ∙ c.in-Leaf.is in
    let same = ap (λ tree. tree.0) (rw branch at c.in_ok-into_own.ensures.0) in
    sym same
    ∙ only c.in-Leaf.items.items c.remove.result c.remove.ensures.value (ap (λ es. length es) same ∙ c.requires.one)
