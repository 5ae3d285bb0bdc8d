-- The leaf is changed, or the child of the branch where the cut is.
use Rattle.std.proofs.Common.{◌≡◌, ◌∙◌, ◌+◌, ◌<◌, ◌^◌, ℕ, ap, length, refl, set, subst, sym, true≢false}
use Rattle.std.proofs.lemmas.Bool.{lt-ltb, or_left, or_right}
use Rattle.std.specs.Prelude.{Err, IfNone, IfOk, IfSome, IsTrue, Ok, OnErr, Option, Result, is_ok, nat_lt, ◌||◌}
use Rattle.sequence.specs.declared.tree.Node.{Node}
use Rattle.sequence.specs.declared.tree.Node.TheVariants.{Branch, Leaf}
use Rattle.sequence.specs.Acts.{IsActed, OfSought, comes, gone}
use Rattle.sequence.specs.Cuts.{HasCut, IsCut}
use Rattle.sequence.specs.Nodes.{AreChildren, CanLose, IsNode, first_label, items_in, seen}
use Rattle.sequence.proofs.Cutting.Acted.{IsDone, IsUnder, acted_under, among_read, branch_acted, branch_left}
use Rattle.sequence.proofs.Cutting.Acted.{count_under}
use Rattle.sequence.proofs.Cutting.Acted.{cut_read, cut_under, leaf_acted, list_acted, lower_under, needs_under}
use Rattle.sequence.proofs.Cutting.Acted.{not_thin, read_twice, room_under, some_under, spare_under, within_read}
use Rattle.sequence.proofs.Calls.{kept_at}
use Rattle.sequence.proofs.Nodes.Copied.{IsMade, made}
use Rattle.sequence.proofs.tree.Tree.+act.Given as given
use Rattle.sequence.proofs.tree.Tree.+act.Goals as goal
use Rattle.sequence.proofs.tree.Tree.+act.Goals.{After-act-2, After-act-arg-1, In-Branch, In-Leaf, In-Ok}
use Rattle.sequence.proofs.tree.Tree.+act.Goals.{else-LOSES-via-else-LOSES}
use Rattle.sequence.proofs.tree.Tree.+act.Goals.{else-LOSES-via-then-LOSES+else-is_thin}

-- the first node of the tree is then what was written there
written : (g : given.Over) (t : ℕ) (c : In-Ok g t) (node : Node g.row.T.Denot g.row.L.Denot)
    → c.make_mut.follows.lender node ≡ node
written g t c node = c.make_mut.follows.holds node (ap (λ r. is_ok r) c.in-Ok.is)

-- the branch is whole, and has what the tree has
branch : (g : given.Over) (t : ℕ) (c : In-Branch g t)
    → IsMade g.L.Label.label_of c.args.self.now (Branch c.in-Branch.children)
branch g t c =
    subst (IsMade g.L.Label.label_of c.args.self.now) c.in-Branch.is (made g.L.Label.label_of c.args.self.now
    c.self.inside.root c.in-Ok.node.now c.self.invariant c.self.view_is c.in-Ok.ensures.value c.requires.copies)

-- the child where the cut is
under : (g : given.Over) (t : ℕ) (c : After-act-arg-1 g t)
    → IsMade g.L.Label.label_of c.args.self.now (Branch c.in-Branch.children)
    → IsUnder g.L.Label.label_of (g.A.Way.Cut.is_before (g.A.Act.way c.args.act)) g.A.Act.LOSES c.args.self.now
    c.in-Branch.children.items c.child_of-at.result c.index_mut-child.result.now
under g t c node =
    let test = g.A.Way.Cut.is_before (g.A.Act.way c.args.act) in
    let cs = c.in-Branch.children.items in
    let at = c.child_of-at.result in
    let d = c.index_mut-child.result.now in
    record {
      are = node.whole;
      same = node.same;
      has = subst (λ tree. HasCut test tree.0) (sym node.same) c.requires.cut;
      within = within_read cs at c.deref-2.result.now c.deref-2.ensures.value c.child_of-at.ensures.within;
      is = c.index_mut-child.ensures.value;
      among = among_read cs at c.deref-2.result.now c.deref-2.ensures.value g.A.Way.Cut.is_before
          (g.A.Act.way c.args.act) c.way-2.result.now c.way-2.ensures c.child_of-at.ensures.among;
      spare = elim c.else-LOSES.branch [
        | else-LOSES-via-then-LOSES+else-is_thin w ↦ λ loses.
            let same = read_twice cs at c.deref-2.result.now c.deref-2.ensures.value w.index.result.now d
            c.child_of-at.ensures.within w.index.ensures c.index_mut-child.ensures.value in
            subst (λ child. CanLose child.tree) (sym same)
            (not_thin w.is_thin.result w.index.result.now.tree w.is_thin.ensures w.if-is_thin.false)
        | else-LOSES-via-else-LOSES w ↦ λ loses.
            absurd (true≢false (sym loses ∙ sym c.LOSES.ensures ∙ w.if-LOSES.false))
      ];
    }

-- the leaf too
leaf : (g : given.Over) (t : ℕ) (c : In-Leaf g t) → IsMade g.L.Label.label_of c.args.self.now (Leaf c.in-Leaf.items)
leaf g t c =
    subst (IsMade g.L.Label.label_of c.args.self.now) c.in-Leaf.is (made g.L.Label.label_of c.args.self.now
    c.self.inside.root c.in-Ok.node.now c.self.invariant c.self.view_is c.in-Ok.ensures.value c.requires.copies)

pub returns-then-not-is_unique : goal.returns-then-not-is_unique
returns-then-not-is_unique g t c = (refl, refl)

pub invariant_of-self : goal.invariant_of-self
invariant_of-self g t c =
    subst (IsNode g.L.Label.label_of) (sym (kept_at c.make_mut.result c.in_default.field-0 c.in_default.is
    c.make_mut.follows.holds-at-none)) c.self.invariant

pub returns-in_default : goal.returns-in_default
returns-in_default g t c = (
  ap (λ node. seen node) (kept_at c.make_mut.result c.in_default.field-0 c.in_default.is
      c.make_mut.follows.holds-at-none) ∙ c.self.view_is,
  refl,
)

pub last_in-last-requires-clause-cut : goal.last_in-last-requires-clause-cut
last_in-last-requires-clause-cut g t c =
    let leaf = leaf g t (goal.at.last_in-last-requires-clause-cut g t c).In-Leaf in
    cut_read g.A.Way.Cut.is_before (g.A.Act.way c.args.act) c.way.result.now c.way.ensures c.in-Leaf.items.items
    c.deref.result.now c.deref.ensures.value c.args.self.now (ap (λ t. t.0) leaf.same) c.requires.cut

pub last_in-last-requires-clause-some : goal.last_in-last-requires-clause-some
last_in-last-requires-clause-some g t c =
    let leaf = leaf g t (goal.at.last_in-last-requires-clause-some g t c).In-Leaf in
    subst (λ es. 0 < length es) (sym c.deref.ensures.value) leaf.whole.some

pub act-requires-clause-none : goal.act-requires-clause-none
act-requires-clause-none g t c =
    let last = c.last_in-last.result in
    subst (λ es. IfNone last (IsCut (g.A.Way.Cut.is_before (g.A.Act.way c.args.act)) es 0)) c.deref.ensures.value
    (subst (λ way. IfNone last (IsCut (g.A.Way.Cut.is_before way) c.deref.result.now 0)) c.way.ensures
    c.last_in-last.ensures.none)

pub act-requires-clause-some : goal.act-requires-clause-some
act-requires-clause-some g t c =
    let last = c.last_in-last.result in
    subst (λ es. IfSome last (λ at. IsCut (g.A.Way.Cut.is_before (g.A.Act.way c.args.act)) es (at + 1)))
    c.deref.ensures.value (subst (λ way. IfSome last (λ at. IsCut (g.A.Way.Cut.is_before way) c.deref.result.now
    (at + 1))) c.way.ensures c.last_in-last.ensures.some)

pub act-requires-clause-needs : goal.act-requires-clause-needs
act-requires-clause-needs g t c =
    let leaf = leaf g t (goal.at.act-requires-clause-needs g t c).In-Leaf in
    let way = g.A.Act.way c.args.act in
    subst (λ t. OfSought (g.A.Way.Seek.is_sought way) (g.A.Way.Cut.is_before way) (g.A.Act.needs c.args.act) t.0)
    (sym leaf.same) c.requires.needs

pub act-requires-clause-room : goal.act-requires-clause-room
act-requires-clause-room g t c =
    let leaf = leaf g t (goal.at.act-requires-clause-room g t c).In-Leaf in
    subst (λ t. length t.0 + 1 < 2 ^ 64) (sym leaf.same) c.requires.room

pub invariant_of-self-in-Leaf : goal.invariant_of-self-in-Leaf
invariant_of-self-in-Leaf g t c =
    let at = goal.at.invariant_of-self-in-Leaf g t c in
    let leaf = leaf g t at.In-Leaf in
    let way = g.A.Act.way c.args.act in
    subst (IsNode g.L.Label.label_of) (sym (written g t at.In-Ok (Leaf c.act.new.items)))
    (list_acted (g.A.Way.Cut.is_before way) (g.A.Act.does c.args.act) g.A.Act.GROWS g.A.Act.LOSES c.in-Leaf.items.items
    c.act.new.items.items c.act.result c.act.ensures.done c.act.ensures.blocked leaf.whole
    (subst (λ t. IsTrue g.A.Act.LOSES → 1 < length t.0) (sym leaf.same) c.requires.spare)
    (subst (λ t. length t.0 + 1 < 2 ^ 64) (sym leaf.same) c.requires.room))

pub returns-in-Leaf : goal.returns-in-Leaf
returns-in-Leaf g t c =
    let leaf = leaf g t (goal.at.returns-in-Leaf g t c).In-Leaf in
    leaf_acted (g.A.Way.Cut.is_before (g.A.Act.way c.args.act)) (g.A.Act.does c.args.act) g.A.Act.GROWS
    g.A.Act.LOSES g.L.Label.label_of c.args.labelled c.args.self.now _ c.args.act c.in-Leaf.items.items
    c.act.new.items.items c.act.result leaf.same (ap (λ node. seen node)
    (written g t (goal.at.returns-in-Leaf g t c).In-Ok (Leaf c.act.new.items)))
    c.act.ensures.done c.act.ensures.first c.act.ensures.blocked c.act.ensures.back

pub child_of-at-requires-clause-children : goal.child_of-at-requires-clause-children
child_of-at-requires-clause-children g t c =
    let node = branch g t (goal.at.child_of-at-requires-clause-children g t c).In-Branch in
    subst (AreChildren g.L.Label.label_of) (sym c.deref-2.ensures.value) node.whole

pub child_of-at-requires-clause-cut : goal.child_of-at-requires-clause-cut
child_of-at-requires-clause-cut g t c =
    let node = branch g t (goal.at.child_of-at-requires-clause-cut g t c).In-Branch in
    cut_read g.A.Way.Cut.is_before (g.A.Act.way c.args.act) c.way-2.result.now c.way-2.ensures
    (items_in c.in-Branch.children.items) (items_in c.deref-2.result.now)
    (ap (λ cs. items_in cs) c.deref-2.ensures.value) c.args.self.now (ap (λ t. t.0) node.same) c.requires.cut

pub invariant_of-self-then-is_thin : goal.invariant_of-self-then-is_thin
invariant_of-self-then-is_thin g t c =
    let at = goal.at.invariant_of-self-then-is_thin g t c in
    subst (IsNode g.L.Label.label_of) (sym (written g t at.In-Ok (Branch c.in-Branch.children)))
    (branch g t at.In-Branch).whole

pub returns-then-is_thin : goal.returns-then-is_thin
returns-then-is_thin g t c = (
  ap (λ node. seen node) (written g t (goal.at.returns-then-is_thin g t c).In-Ok (Branch c.in-Branch.children))
      ∙ (branch g t (goal.at.returns-then-is_thin g t c).In-Branch).same,
  refl,
)

pub act-requires-2 : goal.act-requires-2
act-requires-2 g t c κs within =
    let at = goal.at.act-requires-2 g t c in
    let u = under g t at.After-act-arg-1 (branch g t at.In-Branch) in
    let test = g.A.Way.Cut.is_before (g.A.Act.way c.args.act) in
    let cs = c.in-Branch.children.items in
    let i = c.child_of-at.result in
    let d = c.index_mut-child.result.now in
    let label = g.L.Label.label_of in
    let loses = g.A.Act.LOSES in
    let tree = c.args.self.now in
    let cut = cut_under label test loses tree cs i d u in
    let needs = needs_under label test loses tree cs i d u (g.A.Way.Seek.is_sought (g.A.Act.way c.args.act))
    (g.A.Act.needs c.args.act) c.requires.needs in
    let spare = spare_under label test loses tree cs i d u in
    let room = room_under label test loses tree cs i d u c.requires.room in
    let copies = c.requires.copies in
    let types = within.1 in (
      lower_under label test loses tree cs i d u t c.decreases,
      (within.0, (types.0, (types.1.0, (types.1.1.0, (types.1.1.1, (copies, (cut, (needs, (spare, room))))))))),
    )

-- the branch after the act on the child, by what it answers
after : (g : given.Over) (t : ℕ) (c : After-act-2 g t)
    → let d = c.index_mut-child.result.now in
    let test = g.A.Way.Cut.is_before (g.A.Act.way c.args.act) in
    let does = g.A.Act.does c.args.act in
    let new = c.act-2.new.self in
    IsUnder g.L.Label.label_of test g.A.Act.LOSES c.args.self.now c.in-Branch.children.items c.child_of-at.result d
    → (len : ℕ) (r : Result (Option g.row.A-Gone.Denot) (Unit {0}))
    → IfOk r (IsActed test does g.A.Act.GROWS g.A.Act.LOSES d.tree.0 new.0) → OnErr r (new.0 ≡ d.tree.0)
    → IfOk r (λ answer. len + gone answer ≡ d.len + comes g.A.Act.GROWS g.A.Act.LOSES answer) → OnErr r (len ≡ d.len)
    → new.1 ≡ d.tree.1
    → (IsTrue (c.args.labelled || nat_lt 0 c.child_of-at.result)
    → first_label g.L.Label.label_of new.0 ≡ first_label g.L.Label.label_of d.tree.0)
    → IsDone g.L.Label.label_of test does g.A.Act.GROWS g.A.Act.LOSES c.args.labelled c.args.self.now
    (set c.in-Branch.children.items c.child_of-at.result (record d { len = len; tree = new })) r
after g t c under len r did blocked counts kept height first =
    let labelled = c.args.labelled in
    acted_under g.L.Label.label_of (g.A.Way.Cut.is_before (g.A.Act.way c.args.act)) (g.A.Act.does c.args.act)
    g.A.Act.GROWS g.A.Act.LOSES labelled c.args.self.now c.in-Branch.children.items c.child_of-at.result
    c.index_mut-child.result.now under len c.act-2.new.self r c.requires.room did blocked height counts kept
    (λ l. first (or_left labelled _ l)) (λ p. first (or_right labelled _ (lt-ltb 0 c.child_of-at.result p)))

-- the branch if the child stays
left : (g : given.Over) (t : ℕ) (c : After-act-2 g t)
    → let d = c.index_mut-child.result.now in
    let test = g.A.Way.Cut.is_before (g.A.Act.way c.args.act) in
    let refused : Result (Option g.row.A-Gone.Denot) (Unit {0}) = Err tt in
    IsUnder g.L.Label.label_of test g.A.Act.LOSES c.args.self.now c.in-Branch.children.items c.child_of-at.result d
    → c.act-2.new.self ≡ d.tree
    → IsDone g.L.Label.label_of test (g.A.Act.does c.args.act) g.A.Act.GROWS g.A.Act.LOSES c.args.labelled
    c.args.self.now (set c.in-Branch.children.items c.child_of-at.result (record d { tree = c.act-2.new.self }))
    refused
left g t c under same =
    after g t c under c.index_mut-child.result.now.len (Err tt) tt (ap (λ t. t.0) same) tt refl (ap (λ t. t.1) same)
    (λ _. ap (λ t. first_label g.L.Label.label_of t.0) same)

pub invariant_of-self-in_err-gone : goal.invariant_of-self-in_err-gone
invariant_of-self-in_err-gone g t c =
    let at = goal.at.invariant_of-self-in_err-gone g t c in
    let u = under g t at.After-act-arg-1 (branch g t at.In-Branch) in
    subst (IsNode g.L.Label.label_of) (sym (written g t at.In-Ok _))
    (left g t at.After-act-2 u c.in_err-gone.ensures.0).whole

pub returns-in_err-gone : goal.returns-in_err-gone
returns-in_err-gone g t c =
    let at = goal.at.returns-in_err-gone g t c in
    let u = under g t at.After-act-arg-1 (branch g t at.In-Branch) in
    branch_left (g.A.Way.Cut.is_before (g.A.Act.way c.args.act)) (g.A.Act.does c.args.act) g.A.Act.GROWS
    g.A.Act.LOSES g.L.Label.label_of c.args.labelled c.args.self.now _ c.args.act c.from_residual.result
    c.in_err-gone.field-0.0 _ (ap (λ node. seen node) (written g t at.In-Ok _))
    (left g t at.After-act-2 u c.in_err-gone.ensures.0) c.from_residual.ensures.1 c.in_err-gone.ensures.1

pub invariant_of-self-2 : goal.invariant_of-self-2
invariant_of-self-2 g t c =
    let at = goal.at.invariant_of-self-2 g t c in
    let u = under g t at.After-act-arg-1 (branch g t at.In-Branch) in
    let did = c.in_ok-gone.ensures in
    let done = after g t at.After-act-2 u c.len_after-child.result (Ok c.in_ok-gone.gone) did.acted tt
    c.len_after-child.ensures tt did.height did.first in
    subst (IsNode g.L.Label.label_of) (sym (written g t at.In-Ok _)) done.whole

pub returns : goal.returns
returns g t c =
    let at = goal.at.returns g t c in
    let u = under g t at.After-act-arg-1 (branch g t at.In-Branch) in
    let did = c.in_ok-gone.ensures in
    let done = after g t at.After-act-2 u c.len_after-child.result (Ok c.in_ok-gone.gone) did.acted tt
    c.len_after-child.ensures tt did.height did.first in
    branch_acted (g.A.Way.Cut.is_before (g.A.Act.way c.args.act)) (g.A.Act.does c.args.act) g.A.Act.GROWS
    g.A.Act.LOSES g.L.Label.label_of c.args.labelled c.args.self.now _ _ c.in_ok-gone.gone (ap (λ node. seen node)
    (written g t at.In-Ok _)) done

pub len_after-child-requires-clause-some : goal.len_after-child-requires-clause-some
len_after-child-requires-clause-some g t c =
    let at = goal.at.len_after-child-requires-clause-some g t c in
    let u = under g t at.After-act-arg-1 (branch g t at.In-Branch) in
    some_under g.L.Label.label_of (g.A.Way.Cut.is_before (g.A.Act.way c.args.act)) g.A.Act.LOSES c.args.self.now
    c.in-Branch.children.items c.child_of-at.result c.index_mut-child.result.now u

pub len_after-child-requires-clause-room : goal.len_after-child-requires-clause-room
len_after-child-requires-clause-room g t c =
    let at = goal.at.len_after-child-requires-clause-room g t c in
    let u = under g t at.After-act-arg-1 (branch g t at.In-Branch) in
    count_under g.L.Label.label_of (g.A.Way.Cut.is_before (g.A.Act.way c.args.act)) g.A.Act.LOSES c.args.self.now
    c.in-Branch.children.items c.child_of-at.result c.index_mut-child.result.now u c.requires.room
