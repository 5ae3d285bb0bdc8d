-- Two leaves, or two branches that are as high, in one.
use Rattle.std.proofs.Common.{◌≡◌, ◌++◌, ◌∙◌, ap, arith, length, subst, sym}
use Rattle.std.specs.Prelude.{MatchResult, Ok, Result, Some}
use Rattle.sequence.specs.Nodes.{IsList, IsNode, seen}
use Rattle.sequence.proofs.Shapes.Appended.{both_in}
use Rattle.sequence.proofs.Nodes.Wide.{height_some}
use Rattle.sequence.proofs.tree.Node.append.Goals as goal
use Rattle.sequence.proofs.tree.Node.append.Goals.{in-Leaf-Leaf+in_ok-append-in-Leaf-Leaf}
use Rattle.sequence.proofs.tree.Node.append.Goals.{in-Branch-Branch+in_ok-append-in-Branch-Branch}
use Rattle.sequence.proofs.tree.Node.append.Goals.{in_default-via-in-Leaf+in_default}
use Rattle.sequence.proofs.tree.Node.append.Goals.{in_default-via-in-Branch+in_default}

pub unreachable-requires : goal.unreachable-requires
unreachable-requires g c =
    elim c.in_default.branch [
      | in_default-via-in-Leaf+in_default w ↦
          let level = rw w.in_default.is-1 at (rw w.in_default.is-0 at c.requires.fits.level) in
          let high = height_some w.in_default.field-0-1.items (rw w.in_default.is-1 at c.requires.whole.1) in
          omega (arith, level, high)
      | in_default-via-in-Branch+in_default w ↦
          let level = rw w.in_default.is-1 at (rw w.in_default.is-0 at c.requires.fits.level) in
          let high = height_some w.in_default.field-0-0.items (rw w.in_default.is-0 at c.requires.whole.0) in
          omega (arith, level, high)
    ]

-- what a call says that was not refused
accepted : {A E : Type 0} (P Q : Type 0) (r : Result A E) (a : A) → r ≡ Ok a → P → MatchResult r (λ _. P) (λ _. Q)
accepted P Q r a is p = subst (λ r. MatchResult r (λ _. P) (λ _. Q)) (sym is) p

pub returns : goal.returns
returns g c =
    elim c.match-self.branch [
      | in-Leaf-Leaf+in_ok-append-in-Leaf-Leaf w ↦
          let items = w.in_ok-append-in-Leaf-Leaf.ensures.items in
          let own = w.in-Leaf-Leaf.is-0 in
          let other = w.in-Leaf-Leaf.is-1 in
          let list = subst IsList (λ i. (seen (own i)).0 ++ (seen (other i)).0) c.requires.fits.list in
          accepted _ _ c.match-self.result _ w.result-is (
            subst (IsNode g.L.Label.label_of) (sym w.self-is) (subst IsList (sym items) list),
            ap seen w.self-is ∙ ap (λ es. (es, 0)) items
                ∙ sym (λ i. ((seen (own i)).0 ++ (seen (other i)).0, (seen (own i)).1)),
          )
      | in-Branch-Branch+in_ok-append-in-Branch-Branch w ↦
          let cs = w.in-Branch-Branch.children.items in
          let ds = w.in-Branch-Branch.more.items in
          let own = w.in-Branch-Branch.is-0 in
          let other = w.in-Branch-Branch.is-1 in
          let list = subst IsList (λ i. (seen (own i)).0 ++ (seen (other i)).0) c.requires.fits.list in
          let level = rw other at (rw own at c.requires.fits.level) in
          let are = subst (IsNode g.L.Label.label_of) own c.requires.whole.0 in
          let more = subst (IsNode g.L.Label.label_of) other c.requires.whole.1 in
          let n = w.len-next.result in
          let x = w.index_mut.result.now in
          let l = w.swap.new.x in
          let long : length cs ≡ n = omega (arith, w.len-next.ensures) in
          let first = rw other at c.requires.fits.first ∙ ap (λ l. Some l) (sym w.swap.ensures.x_after) in
          let done = both_in cs ds w.append-in-Branch-Branch.new.self.items x l n
          w.in_ok-append-in-Branch-Branch.ensures.items are more level list long w.index_mut.ensures.value first in
          accepted _ _ c.match-self.result _ w.result-is (
            subst (IsNode g.L.Label.label_of) (sym w.self-is) done.children,
            ap seen w.self-is ∙ done.same ∙ sym (λ i. ((seen (own i)).0 ++ (seen (other i)).0, (seen (own i)).1)),
          )
    ]
