use Rattle.std.proofs.Common.{◌≡◌, ◌+◌, ◌-◌, ◌∙◌, ap, arith, get_or, length, length-append, refl, set, subst, sym}
use Rattle.std.specs.List.{insert}
use Rattle.sequence.specs.declared.tree.Child.{Child}
use Rattle.sequence.specs.Nodes.{CanLose, StandFor}
use Rattle.sequence.specs.Spots.{Leads}
use Rattle.sequence.proofs.Shapes.Halves.{left_is}
use Rattle.sequence.proofs.Shapes.Joined.{IsRoom, split_is, written_back}
use Rattle.sequence.proofs.Nodes.Placed.{child_here, stand_itself}
use Rattle.sequence.proofs.tree.split.room_under.Goals as goal

pub returns : goal.returns
returns g c =
    let cs = c.args.children.now.items in
    let spot = c.args.spot in
    let d = c.index_mut-left.result.now in
    let r = c.in-Some.right in
    let l = record d { len = d.len - r.len; tree = c.split_node.new.self } in
    let room = c.in_ok-reserve.ensures.items in
    let is = c.index_mut-left.ensures.value ∙ ap (λ cs. get_or cs spot.child d) room in
    let old = child_here cs spot.child d c.requires.children c.requires.within is in
    let halves = rw c.in-Some.is at c.in_ok-right.ensures in
    let child = left_is d r l old halves.0 refl in
    let done = split_is cs spot.child d l r c.requires.children c.requires.within is child
    halves.0 refl spot.place l.len halves.1 child.counted in
    let items : c.insert.new.self.items ≡ insert (set cs spot.child l) (spot.child + 1) r =
    c.in-Ok.ensures.items ∙ ap (λ xs. insert (set xs spot.child l) (spot.child + 1) r) room in
    let all = subst (λ xs. IsRoom g.L.Label.label_of cs xs spot c.past.result) (sym items)
    (subst (λ there. IsRoom g.L.Label.label_of cs (insert (set cs spot.child l) (spot.child + 1) r) spot there)
    (sym c.past.ensures)
    done) in
    record { same = all.same; leads = all.leads; spare = λ _. all.spare }

pub overflow_sub-left : goal.overflow_sub-left
overflow_sub-left g c =
    let d = c.index_mut-left.result.now in
    let new = c.split_node.new.self in
    let halves = (rw c.in-Some.is at c.in_ok-right.ensures).0 in
    let old = child_here c.args.children.now.items c.args.spot.child d c.requires.children c.requires.within
    (c.index_mut-left.ensures.value ∙ ap (λ cs. get_or cs c.args.spot.child d) c.in_ok-reserve.ensures.items) in
    omega (
      arith,
      old.counted,
      halves.child.counted,
      ap (λ es. length es) halves.items,
      length-append new.0 c.in-Some.right.tree.0,
    )

pub returns-in_err-right-clause-same : goal.returns-in_err-right-clause-same
returns-in_err-right-clause-same g c =
    let cs = c.args.children.now.items in
    subst (StandFor g.L.Label.label_of cs)
    (sym (written_back cs c.reserve.new.self.items c.args.spot.child c.index_mut-left.result.now
    (record c.index_mut-left.result.now { tree = c.split_node.new.self }) c.index_mut-left.ensures.value
    (ap (λ tree. record c.index_mut-left.result.now { tree = tree }) c.in_err-right.ensures)
    c.in_ok-reserve.ensures.items))
    (stand_itself cs c.requires.children)

pub returns-then-not-is_full : goal.returns-then-not-is_full
returns-then-not-is_full g c = record {
  same = stand_itself c.args.children.now.items c.requires.children;
  leads = λ place leads. leads;
  spare = λ spare. spare;
}

pub returns-in_default : goal.returns-in_default
returns-in_default g c =
    let cs = c.args.children.now.items in
    let spot = c.args.spot in
    let d = c.index_mut-left.result.now in
    let same = rw c.in_default.is at c.in_ok-right.ensures in
    let back = written_back cs c.reserve.new.self.items spot.child d (record d { tree = c.split_node.new.self })
    c.index_mut-left.ensures.value (ap (λ tree. record d { tree = tree }) same) c.in_ok-reserve.ensures.items in
    record {
      same = subst (StandFor g.L.Label.label_of cs) (sym back) (stand_itself cs c.requires.children);
      leads = λ place leads. subst (λ xs. Leads xs place spot) (sym back) leads;
      spare = λ spare. subst (λ xs. (d : Child g.row.T.Denot g.row.L.Denot) → CanLose (get_or xs spot.child d).tree)
          (sym back) spare;
    }

pub returns-in_err-reserve-clause-same : goal.returns-in_err-reserve-clause-same
returns-in_err-reserve-clause-same g c =
    let cs = c.args.children.now.items in
    subst (StandFor g.L.Label.label_of cs) (sym c.reserve.ensures.items) (stand_itself cs c.requires.children)

pub insert-requires : goal.insert-requires
insert-requires g c = omega (arith, ap (λ cs. length cs) c.in_ok-reserve.ensures.items, c.requires.within)

pub overflow_add-child : goal.overflow_add-child
overflow_add-child g c = omega (arith, c.requires.within, c.args.children.now.ok)

pub past-requires : goal.past-requires
past-requires g c = omega (arith, c.requires.within, c.args.children.now.ok)
