use Rattle.std.proofs.Common.{◌∙◌}
use Rattle.sequence.proofs.tree.copies.NodeClone.clone.Goals as goal

pub returns-in_ok-copies-in-Leaf : goal.returns-in_ok-copies-in-Leaf
returns-in_ok-copies-in-Leaf g c = record {
  cases = λ equal. rw c.in-Leaf.is (c.in_ok-copies-in-Leaf.ensures equal.0 ∙ c.deref.ensures.value);
}

pub returns-in_ok-copies-in-Branch : goal.returns-in_ok-copies-in-Branch
returns-in_ok-copies-in-Branch g c = record {
  cases = λ equal. rw c.in-Branch.is (c.in_ok-copies-in-Branch.ensures (λ a b h. h equal.1)
      ∙ c.deref-in-Branch.ensures.value);
}
