-- The branch takes the piece in under one child.
use Rattle.std.proofs.Common.{◌≡◌, ◌+◌, ◌<◌, ◌≤◌, ◌^◌, ◌∙◌, ℕ, ap, length, refl, set, subst, sym}
use Rattle.std.specs.Prelude.{Err, Ok, Result, is_ok}
use Rattle.sequence.specs.declared.tree.Node.{Node}
use Rattle.sequence.specs.declared.tree.Node.TheVariants.{Branch, Leaf}
use Rattle.sequence.specs.Nodes.{AreChildren, IsNode, items_in, seen}
use Rattle.sequence.specs.Pieces.{Fits, IsPart, items_of, part_of}
use Rattle.sequence.specs.Spots.{Leads, spliced}
use Rattle.sequence.proofs.Calls.{kept_at}
use Rattle.sequence.proofs.Nodes.Copied.{IsMade, made}
use Rattle.sequence.proofs.Nodes.Ended.{IsEnded}
use Rattle.sequence.proofs.Pieces.{IsIn, beside_are, count_in, counts, fits_in, items_here, lower_in, part_here}
use Rattle.sequence.proofs.Pieces.{leaf_is, put_back, put_beside, put_in_leaf, put_under_it, room_in, same_part}
use Rattle.sequence.proofs.Pieces.{within_in}
use Rattle.sequence.proofs.tree.Tree.+insert.Given as given
use Rattle.sequence.proofs.tree.Tree.+insert.Goals as goal
use Rattle.sequence.proofs.tree.Tree.+insert.Goals.{After-insert, After-insert-arg-1, In-Branch, In-Leaf, In-Ok}

-- the first node of the tree is then what was written there
written : (g : given.Over) (t : ℕ) (c : In-Ok g t) (node : Node g.row.T.Denot g.row.L.Denot)
    → c.make_mut.follows.lender node ≡ node
written g t c node = c.make_mut.follows.holds node (ap (λ r. is_ok r) c.in-Ok.is)

-- the branch is whole, and has what the tree has
branch : (g : given.Over) (t : ℕ) (c : In-Branch g t)
    → IsMade g.L.Label.label_of c.args.self.now (Branch c.in-Branch.children)
branch g t c =
    subst (IsMade g.L.Label.label_of c.args.self.now) c.in-Branch.is (made g.L.Label.label_of c.args.self.now
    c.self.inside.root c.in-Ok.node.now c.self.invariant c.self.view_is c.in-Ok.ensures.value c.requires.copies)

-- the leaf too
leaf : (g : given.Over) (t : ℕ) (c : In-Leaf g t) → IsMade g.L.Label.label_of c.args.self.now (Leaf c.in-Leaf.items)
leaf g t c =
    subst (IsMade g.L.Label.label_of c.args.self.now) c.in-Leaf.is (made g.L.Label.label_of c.args.self.now
    c.self.inside.root c.in-Ok.node.now c.self.invariant c.self.view_is c.in-Ok.ensures.value c.requires.copies)

-- the child where the piece goes on down
under : (g : given.Over) (t : ℕ) (c : After-insert-arg-1 g t)
    → IsMade g.L.Label.label_of c.args.self.now (Branch c.in-Branch.children)
    → IsIn g.L.Label.label_of c.args.piece c.in-Ok-under.piece c.args.place c.args.self.now
    c.room_under.new.children.items c.in-Ok-room_under.spot c.index_mut-child.result.now
under g t c node =
    let same = c.in-Ok-room_under.ensures.same in
    record {
      are = same.children;
      same = (λ i. (same.items i, same.height i)) ∙ node.same;
      leads = c.in-Ok-room_under.ensures.leads c.args.place
          (subst (λ cs. Leads cs c.args.place c.spot_of.result) c.deref.ensures.value c.spot_of.ensures);
      is = c.index_mut-child.ensures.value;
      on = c.in-Ok-under.ensures;
      fits = c.requires.fits;
      room = c.requires.room;
    }

pub invariant_of-self : goal.invariant_of-self
invariant_of-self g t c =
    subst (IsNode g.L.Label.label_of) (sym (kept_at c.make_mut.result c.in_default.field-0 c.in_default.is
    c.make_mut.follows.holds-at-none)) c.self.invariant

pub returns-in_default : goal.returns-in_default
returns-in_default g t c = (
  ap (λ node. seen node) (kept_at c.make_mut.result c.in_default.field-0 c.in_default.is
      c.make_mut.follows.holds-at-none) ∙ c.self.view_is,
  c.into_part.ensures,
)

pub insert_in_leaf-requires-clause-list : goal.insert_in_leaf-requires-clause-list
insert_in_leaf-requires-clause-list g t c =
    (leaf g t (goal.at.insert_in_leaf-requires-clause-list g t c).In-Leaf).whole

pub insert_in_leaf-requires-clause-within : goal.insert_in_leaf-requires-clause-within
insert_in_leaf-requires-clause-within g t c =
    let leaf = leaf g t (goal.at.insert_in_leaf-requires-clause-within g t c).In-Leaf in
    subst (λ tree. c.args.place ≤ length tree.0) (sym leaf.same) c.requires.within

pub insert_in_leaf-requires-clause-fits : goal.insert_in_leaf-requires-clause-fits
insert_in_leaf-requires-clause-fits g t c =
    let leaf = leaf g t (goal.at.insert_in_leaf-requires-clause-fits g t c).In-Leaf in
    subst (Fits g.L.Label.label_of c.args.piece c.args.place) (sym leaf.same) c.requires.fits

pub insert_in_leaf-requires-clause-room : goal.insert_in_leaf-requires-clause-room
insert_in_leaf-requires-clause-room g t c =
    let leaf = leaf g t (goal.at.insert_in_leaf-requires-clause-room g t c).In-Leaf in
    subst (λ tree. length tree.0 + length (items_of c.args.piece) < 2 ^ 64) (sym leaf.same) c.requires.room

pub invariant_of-self-in-Leaf : goal.invariant_of-self-in-Leaf
invariant_of-self-in-Leaf g t c =
    let at = goal.at.invariant_of-self-in-Leaf g t c in
    subst (IsNode g.L.Label.label_of) (sym (written g t at.In-Ok (Leaf c.insert_in_leaf.new.items)))
    (leaf_is c.args.place (items_of c.args.piece) (part_of c.args.piece) c.in-Leaf.items.items
    c.insert_in_leaf.new.items.items c.insert_in_leaf.result c.insert_in_leaf.ensures (leaf g t at.In-Leaf).whole)

pub returns-in-Leaf : goal.returns-in-Leaf
returns-in-Leaf g t c =
    let at = goal.at.returns-in-Leaf g t c in
    put_in_leaf c.args.place (items_of c.args.piece) (part_of c.args.piece) c.in-Leaf.items.items
    c.insert_in_leaf.new.items.items c.args.self.now _ c.insert_in_leaf.result c.insert_in_leaf.ensures
    (leaf g t at.In-Leaf).same
    (ap (λ node. seen node) (written g t at.In-Ok (Leaf c.insert_in_leaf.new.items)))

pub index_mut-child-requires : goal.index_mut-child-requires
index_mut-child-requires g t c =
    let cs = c.room_under.new.children in
    let leads = c.in-Ok-room_under.ensures.leads c.args.place
    (subst (λ cs. Leads cs c.args.place c.spot_of.result) c.deref.ensures.value c.spot_of.ensures) in
    subst (λ n. c.in-Ok-room_under.spot.child < n) (sym cs.ok.0) leads.within

pub beside-requires-clause-copies : goal.beside-requires-clause-copies
beside-requires-clause-copies g t c = c.requires.copies

pub beside-requires-clause-children : goal.beside-requires-clause-children
beside-requires-clause-children g t c = (branch g t (goal.at.beside-requires-clause-children g t c).In-Branch).whole

pub beside-requires-clause-part : goal.beside-requires-clause-part
beside-requires-clause-part g t c =
    let node = branch g t (goal.at.beside-requires-clause-part g t c).In-Branch in
    subst (IsPart g.L.Label.label_of c.in-Err.child 1 c.args.place) (sym node.same)
    (part_here g.L.Label.label_of c.args.piece c.in-Err.child c.args.place c.args.self.now c.in-Err.ensures
    c.requires.fits)

pub beside-requires-clause-room : goal.beside-requires-clause-room
beside-requires-clause-room g t c =
    let node = branch g t (goal.at.beside-requires-clause-room g t c).In-Branch in
    subst (λ tree. length tree.0 + length c.in-Err.child.tree.0 < 2 ^ 64) (sym node.same)
    (subst (λ es. length c.args.self.now.0 + length es < 2 ^ 64) (items_here g.L.Label.label_of c.args.piece
    c.in-Err.child c.in-Err.ensures) c.requires.room)

pub invariant_of-self-in-Err : goal.invariant_of-self-in-Err
invariant_of-self-in-Err g t c =
    let at = goal.at.invariant_of-self-in-Err g t c in
    subst (IsNode g.L.Label.label_of) (sym (written g t at.In-Ok (Branch c.beside.new.children)))
    (beside_are g.L.Label.label_of c.args.place c.in-Err.child c.in-Branch.children.items c.beside.new.children.items
    c.beside.result c.beside.ensures (branch g t at.In-Branch).whole)

pub returns-in-Err : goal.returns-in-Err
returns-in-Err g t c =
    let at = goal.at.returns-in-Err g t c in
    put_beside g.L.Label.label_of c.args.place c.args.piece c.in-Err.child c.args.self.now _
    c.in-Branch.children.items c.beside.new.children.items c.beside.result c.beside.ensures c.in-Err.ensures
    (branch g t at.In-Branch).same
    (ap (λ node. seen node) (written g t at.In-Ok (Branch c.beside.new.children)))

pub spot_of-requires-clause-children : goal.spot_of-requires-clause-children
spot_of-requires-clause-children g t c =
    let node = branch g t (goal.at.spot_of-requires-clause-children g t c).In-Branch in
    subst (AreChildren g.L.Label.label_of) (sym c.deref.ensures.value) node.whole

pub spot_of-requires-clause-within : goal.spot_of-requires-clause-within
spot_of-requires-clause-within g t c =
    let node = branch g t (goal.at.spot_of-requires-clause-within g t c).In-Branch in
    subst (λ cs. c.args.place ≤ length (items_in cs)) (sym c.deref.ensures.value)
    (subst (λ tree. c.args.place ≤ length tree.0) (sym node.same) c.requires.within)

pub room_under-requires-clause-copies : goal.room_under-requires-clause-copies
room_under-requires-clause-copies g t c = c.requires.copies

pub room_under-requires-clause-children : goal.room_under-requires-clause-children
room_under-requires-clause-children g t c =
    (branch g t (goal.at.room_under-requires-clause-children g t c).In-Branch).whole

pub room_under-requires-clause-within : goal.room_under-requires-clause-within
room_under-requires-clause-within g t c =
    subst (λ cs. c.spot_of.result.child < length cs) c.deref.ensures.value c.spot_of.ensures.within

pub invariant_of-self-in_default-room_under : goal.invariant_of-self-in_default-room_under
invariant_of-self-in_default-room_under g t c =
    let at = goal.at.invariant_of-self-in_default-room_under g t c in
    subst (IsNode g.L.Label.label_of) (sym (written g t at.In-Ok (Branch c.room_under.new.children)))
    c.in_default-room_under.ensures.same.children

pub returns-in_default-room_under : goal.returns-in_default-room_under
returns-in_default-room_under g t c =
    let at = goal.at.returns-in_default-room_under g t c in
    let node = branch g t at.In-Branch in
    let same = c.in_default-room_under.ensures.same in (
      ap (λ node. seen node) (written g t at.In-Ok (Branch c.room_under.new.children))
          ∙ (λ i. (same.items i, same.height i)) ∙ node.same,
      c.into_part-in_default-room_under.ensures
          ∙ same_part c.args.piece c.in-Ok-under.piece c.in-Ok-under.ensures,
    )

pub insert-requires : goal.insert-requires
insert-requires g t c κs within =
    let at = goal.at.insert-requires g t c in
    let u = under g t at.After-insert-arg-1 (branch g t at.In-Branch) in
    let label = g.L.Label.label_of in
    let piece = c.args.piece in
    let next = c.in-Ok-under.piece in
    let cs = c.room_under.new.children.items in
    let spot = c.in-Ok-room_under.spot in
    let d = c.index_mut-child.result.now in
    let inside = within_in label piece next c.args.place c.args.self.now cs spot d u in
    let fits = fits_in label piece next c.args.place c.args.self.now cs spot d u in
    let room = room_in label piece next c.args.place c.args.self.now cs spot d u in (
      lower_in label piece next c.args.place c.args.self.now cs spot d u t c.decreases,
      (within.0, (within.1, (c.requires.copies, (inside, (fits, room))))),
    )

pub overflow_add-child : goal.overflow_add-child
overflow_add-child g t c =
    let at = goal.at.overflow_add-child g t c in
    let u = under g t at.After-insert-arg-1 (branch g t at.In-Branch) in
    count_in g.L.Label.label_of c.args.piece c.in-Ok-under.piece c.args.place c.args.self.now
    c.room_under.new.children.items c.in-Ok-room_under.spot c.index_mut-child.result.now u c.len-more.result
    (c.len-more.ensures (counts g.L.Label.label_of c.args.piece c.args.place c.args.self.now c.requires.fits))

-- the branch if the child stays
left : (g : given.Over) (t : ℕ) (c : After-insert g t) → c.insert.new.self ≡ c.index_mut-child.result.now.tree
    → IsIn g.L.Label.label_of c.args.piece c.in-Ok-under.piece c.args.place c.args.self.now
    c.room_under.new.children.items c.in-Ok-room_under.spot c.index_mut-child.result.now
    → let refused : Result (Unit {0}) (Unit {0}) = Err tt in
    IsEnded g.L.Label.label_of c.args.self.now c.args.place 0 (items_of c.args.piece)
    (set c.room_under.new.children.items c.in-Ok-room_under.spot.child
    (record c.index_mut-child.result.now { tree = c.insert.new.self })) refused
left g t c same u =
    put_under_it g.L.Label.label_of c.args.piece c.in-Ok-under.piece c.args.place c.args.self.now
    c.room_under.new.children.items c.in-Ok-room_under.spot c.index_mut-child.result.now u c.insert.new.self
    c.index_mut-child.result.now.len (Err tt) tt (ap (λ t. t.0) same) tt refl (ap (λ t. t.1) same)

-- the branch with the piece under the child
done : (g : given.Over) (t : ℕ) (c : After-insert g t)
    → IsIn g.L.Label.label_of c.args.piece c.in-Ok-under.piece c.args.place c.args.self.now
    c.room_under.new.children.items c.in-Ok-room_under.spot c.index_mut-child.result.now
    → let d = c.index_mut-child.result.now in
    let went : Result (Unit {0}) (Unit {0}) = Ok tt in
    c.insert.new.self ≡ (spliced c.in-Ok-room_under.spot.place 0 (items_of c.in-Ok-under.piece) d.tree.0, d.tree.1)
    → IsEnded g.L.Label.label_of c.args.self.now c.args.place 0 (items_of c.args.piece)
    (set c.room_under.new.children.items c.in-Ok-room_under.spot.child
    (record d { len = d.len + c.len-more.result; tree = c.insert.new.self })) went
done g t c u is =
    let d = c.index_mut-child.result.now in
    let more = c.len-more.ensures (counts g.L.Label.label_of c.args.piece c.args.place c.args.self.now
    c.requires.fits) in
    put_under_it g.L.Label.label_of c.args.piece c.in-Ok-under.piece c.args.place c.args.self.now
    c.room_under.new.children.items c.in-Ok-room_under.spot d u c.insert.new.self (d.len + c.len-more.result) (Ok tt)
    (ap (λ t. t.0) is) tt (ap (λ n. d.len + n) more) tt (ap (λ t. t.1) is)

pub invariant_of-self-in_err-insert : goal.invariant_of-self-in_err-insert
invariant_of-self-in_err-insert g t c =
    let at = goal.at.invariant_of-self-in_err-insert g t c in
    let u = under g t at.After-insert-arg-1 (branch g t at.In-Branch) in
    subst (IsNode g.L.Label.label_of) (sym (written g t at.In-Ok _))
    (left g t at.After-insert c.in_err-insert.ensures.0 u).whole

pub returns-in_err-insert : goal.returns-in_err-insert
returns-in_err-insert g t c =
    let at = goal.at.returns-in_err-insert g t c in
    let u = under g t at.After-insert-arg-1 (branch g t at.In-Branch) in
    let left = left g t at.After-insert c.in_err-insert.ensures.0 u in
    put_back c.args.place (items_of c.args.piece) (part_of c.args.piece) c.args.self.now _ c.from_residual.result
    c.in_err-insert.field-0.0 (ap (λ node. seen node) (written g t at.In-Ok _)
    ∙ (λ i. (left.refused i, left.height i))) c.from_residual.ensures.1
    (c.in_err-insert.ensures.1 ∙ same_part c.args.piece c.in-Ok-under.piece c.in-Ok-under.ensures)

pub invariant_of-self-2 : goal.invariant_of-self-2
invariant_of-self-2 g t c =
    let at = goal.at.invariant_of-self-2 g t c in
    let u = under g t at.After-insert-arg-1 (branch g t at.In-Branch) in
    subst (IsNode g.L.Label.label_of) (sym (written g t at.In-Ok _))
    (done g t at.After-insert u c.in_ok-insert.ensures).whole

pub returns : goal.returns
returns g t c =
    let at = goal.at.returns g t c in
    let u = under g t at.After-insert-arg-1 (branch g t at.In-Branch) in
    let done = done g t at.After-insert u c.in_ok-insert.ensures in
    ap (λ node. seen node) (written g t at.In-Ok _)
    ∙ (λ i. (done.items i, done.height i))
