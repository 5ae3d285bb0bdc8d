use Rattle.std.proofs.Common.{◌≡◌, ◌+◌, ◌∙◌, ◌∷◌, ◌++◌, [], ap, append-nil, arith, length, length-append, refl, reverse}
use Rattle.std.proofs.Common.{subst, sym}
use Rattle.std.proofs.lemmas.Nat.{pow_pos}
use Rattle.sequence.specs.Nodes.{AreParts, IsChild, seen}
use Rattle.sequence.proofs.Shapes.Built.{IsBefore, parts_all, parts_more}
use Rattle.sequence.proofs.Shapes.Halves.{child_is}
use Rattle.sequence.proofs.Nodes.Wide.{list_node}
use Rattle.sequence.proofs.tree.build.parts.Goals as goal

pub returns : goal.returns
returns g c =
    let tree = seen c.args.node in
    let here = c.off.invariant in
    let child = c.in_ok-into_child.field-0 in
    let same : child.tree ≡ seen c.off.node =
    c.in_ok-into_child.ensures.tree ∙ c.in_ok-tree.ensures ∙ c.fit.ensures.same
    ∙ rw c.in_default.is at c.in_ok-child.ensures.split in
    let level : IsChild (tree.1 + 1) child =
    subst (λ h. IsChild (h + 1) child) here.height
    (child_is (seen c.off.node) child same (c.in_ok-into_child.ensures.len ∙ here.len) here.wide) in
    let items : c.reverse.new.self.items ≡ reverse (c.off.children.items ++ child ∷ []) =
    c.reverse.ensures.items ∙ ap (λ cs. reverse cs) c.in_ok-push-2.ensures.items in
    subst (AreParts g.L.Label.label_of tree) (sym items)
    (parts_all tree _ (list_node g.L.Label.label_of c.args.node c.requires.node)
    (parts_more _ _ _ [] c.off.children.items child here.before level c.in_ok-into_child.ensures.label
    (ap (λ t. t.0) same)))

pub off-preserved : goal.off-preserved
off-preserved g c =
    let tree = seen c.args.node in
    let before = c.off.invariant in
    let half = c.in-Some.child in
    let halves = (rw c.in-Some.is at c.in_ok-child.ensures.split).0 in
    let level : IsChild (tree.1 + 1) half = subst (λ n. IsChild (n + 1) half) before.height halves.child in
    let lengths = ap (λ es. length es) halves.items in
    let more = length-append (seen c.split_node.new.self).0 half.tree.0 in
    record {
      node = c.in_ok-child.ensures.node;
      height = halves.height ∙ before.height;
      wide = halves.wide;
      len = omega (arith, before.len, halves.child.counted, lengths, more);
      before = subst (IsBefore g.L.Label.label_of (tree.1 + 1) tree.0 (seen c.split_node.new.self).0)
          (sym c.in_ok-push.ensures.items)
          (parts_more _ _ _ _ c.off.children.items half before.before level halves.label halves.items);
    }

pub off-smaller : goal.off-smaller
off-smaller g c =
    let half = c.in-Some.child in
    let halves = (rw c.in-Some.is at c.in_ok-child.ensures.split).0 in
    let more = length-append (seen c.split_node.new.self).0 half.tree.0 in
    omega (arith, halves.child.wide, pow_pos half.tree.1, ap (λ es. length es) halves.items, more)

pub overflow_sub-len : goal.overflow_sub-len
overflow_sub-len g c =
    let half = c.in-Some.child in
    let halves = (rw c.in-Some.is at c.in_ok-child.ensures.split).0 in
    let more = length-append (seen c.split_node.new.self).0 half.tree.0 in
    omega (arith, c.off.invariant.len, halves.child.counted, ap (λ es. length es) halves.items, more)

pub off-init : goal.off-init
off-init g c =
    let tree = seen c.args.node in
    let none = c.new-children.ensures.items in
    record {
      node = c.requires.node;
      height = refl;
      wide = c.requires.wide;
      len = c.requires.len;
      before = subst (IsBefore g.L.Label.label_of (tree.1 + 1) tree.0 tree.0) (sym none) record {
        each = λ k d h. absurd (omega (arith, h));
        labels = λ k d h. absurd (omega (arith, h));
        items = append-nil tree.0;
      };
    }
