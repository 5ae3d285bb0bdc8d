use Rattle.std.proofs.Common.{◌≡◌, ◌≤◌, ◌+◌, [], ◌∷◌, ◌++◌, length, ap, ap₂, map, subst, sym, ◌∙◌, rules}
use Rattle.std.specs.Prelude.{Some, slice_get}
use Rattle.rose_undo.specs.Roses.{paths_from, root}
use Rattle.rose_undo.proofs.Paths.{child_left, got_none, got_some, none_left, paths_left}
use Rattle.rose_undo.proofs.Preorder.{fewer_left, fewer_to_see, seen-more, to_see, to_see-one, to_see-same}
use Rattle.rose_undo.proofs.rose.Rose.paths.Goals as goal

pub loop-path-preserved-in_default-get : goal.loop-path-preserved-in_default-get
loop-path-preserved-in_default-get g c =
    let e = c.in-Some.field-0 in
    let none = none_left e.path.items e.tree.now e.child (subst (λ trees. length trees ≤ e.child)
    c.children.ensures (got_none c.children.result.now e.child c.in_default-get.ensures.lookup)) in
    let same = to_see-same paths_left c.loop-path.left.items c.pop.new.self.items e c.in-Some.ensures.items none in
    ap (λ rest. map (λ p. (p.0.items, p.1.now)) c.loop-path.paths.items ++ rest) (sym same) ∙ c.loop-path.invariant

pub loop-path-smaller-in_default-get : goal.loop-path-smaller-in_default-get
loop-path-smaller-in_default-get g c =
    let e = c.in-Some.field-0 in
    fewer_left paths_left c.loop-path.left.items c.pop.new.self.items e c.in-Some.ensures.items
    (none_left e.path.items e.tree.now e.child (subst (λ trees. length trees ≤ e.child)
    c.children.ensures (got_none c.children.result.now e.child c.in_default-get.ensures.lookup)))

pub loop-path-preserved : goal.loop-path-preserved
loop-path-preserved g c =
    let e = c.in-Some.field-0 in
    let tree = c.in-Some-get.below in
    let path = c.push-in-Some.new.self in
    let is = subst (λ trees. slice_get trees e.child ≡ Some tree.now) c.children.ensures
    (got_some c.children.result.now e.child tree c.in-Some-get.ensures.lookup) in
    let longer : path.items ≡ e.path.items ++ e.child ∷ [] = search rules in
    let copied : c.in_ok-to_vec.field-0.items ≡ path.items = search rules in
    let seen = to_see-one paths_left c.loop-path.left.items c.pop.new.self.items c.push-in-Some-3.new.self.items
    c.push-in-Some-4.new.self.items e (record { path = e.path; tree = e.tree; child = e.child + 1 })
    (record { path = path; tree = tree; child = 0 }) (path.items, root tree.now) c.in-Some.ensures.items
    c.in_ok-push-4.ensures.items c.in_ok-push-5.ensures.items
    (child_left e.path.items path.items e.tree.now e.child tree.now is longer) in
    seen-more (λ p. (p.0.items, p.1.now)) c.loop-path.paths.items c.push-in-Some-2.new.self.items
    (c.in_ok-to_vec.field-0, c.value-in-Some.result) (path.items, root tree.now)
    (to_see paths_left c.loop-path.left.items) (to_see paths_left c.push-in-Some-4.new.self.items)
    (paths_from c.args.self.now []) c.in_ok-push-3.ensures.items
    (ap₂ (λ p v. (p, v)) copied c.value-in-Some.ensures) seen c.loop-path.invariant

pub loop-path-smaller : goal.loop-path-smaller
loop-path-smaller g c =
    let e = c.in-Some.field-0 in
    let tree = c.in-Some-get.below in
    let path = c.push-in-Some.new.self in
    let is = subst (λ trees. slice_get trees e.child ≡ Some tree.now) c.children.ensures
    (got_some c.children.result.now e.child tree c.in-Some-get.ensures.lookup) in
    let longer : path.items ≡ e.path.items ++ e.child ∷ [] = search rules in
    fewer_to_see paths_left c.loop-path.left.items c.pop.new.self.items c.push-in-Some-3.new.self.items
    c.push-in-Some-4.new.self.items e (record { path = e.path; tree = e.tree; child = e.child + 1 })
    (record { path = path; tree = tree; child = 0 }) (path.items, root tree.now) c.in-Some.ensures.items
    c.in_ok-push-4.ensures.items c.in_ok-push-5.ensures.items
    (child_left e.path.items path.items e.tree.now e.child tree.now is longer)
