-- The leaf goes back to where it was.
use Rattle.std.proofs.Common.{List, [], ◌∷◌, ℕ, suc, zero, ◌≡◌, ◌<◌, ◌∙◌, ap, arith, get_or, insert, length}
use Rattle.std.proofs.Common.{remove, subst, sym}
use Rattle.sequence.proofs.tree.ends.pop_leaf.Goals as goal

back : {X : Type 0} (xs : List X) (i : ℕ) (d : X) → i < length xs → d ≡ get_or xs i d → insert (remove xs i) i d ≡ xs
back [] i d h is = absurd (omega (arith, h))
back (x ∷ xs) zero d h is = ap (λ y. y ∷ xs) is
back (x ∷ xs) (suc i) d h is = ap (λ ys. x ∷ ys) (back xs i d (omega (arith, h)) is)

pub returns : goal.returns
returns g c =
    let d = c.remove-label.result in
    c.in-Ok-insert.ensures.items
    ∙ (λ i. insert (c.remove-label.ensures.items i) c.args.at (record d { tree = c.in-Err.ensures i }))
    ∙ back c.reserve.new.self.items c.args.at d (subst (λ cs. c.args.at < length cs)
    (sym c.in_ok-reserve.ensures.items) c.requires.within) c.remove-label.ensures.value ∙ c.in_ok-reserve.ensures.items
