use Rattle.std.proofs.Common.{◌∙◌, inl, inr, arith, sym, true≢false}
use Rattle.std.proofs.lemmas.Bool.Decides.{leb_tells}
use Rattle.sequence.specs.Nodes.{height_in}
use Rattle.sequence.proofs.Nodes.Wide.{two_children}
use Rattle.sequence.proofs.tree.Node.is_full.Goals as goal

pub returns-in-Branch : goal.returns-in-Branch
returns-in-Branch g c =
    let cs = c.in-Branch.children.items in
    let are = rw c.in-Branch.is at c.requires in
    elim (leb_tells 16 c.len-in-Branch.result) [
      | inl many ↦ λ full. rw c.in-Branch.is
          (two_children (height_in cs) cs are.each (omega (arith, many.1, c.len-in-Branch.ensures)))
      | inr few ↦ λ full. absurd (true≢false (sym full ∙ few.0))
    ]
