-- The spot behind the item, once its child was joined and has room again.
use Rattle.std.proofs.Common.{◌≡◌, ◌+◌, ◌-◌, ◌<◌, ◌∙◌, ap, arith, get_or, inl, inr, length, subst, sym}
use Rattle.std.proofs.Common.{take, true≢false}
use Rattle.std.proofs.lemmas.List.{get_or_default}
use Rattle.std.proofs.lemmas.Result.{IfOk-weaker}
use Rattle.sequence.specs.Nodes.{AreChildren, CanLose, items_in}
use Rattle.sequence.specs.Spots.{Leads}
use Rattle.sequence.proofs.Nodes.Children.{length-more}
use Rattle.sequence.proofs.Nodes.Placed.{stand_on}
use Rattle.sequence.proofs.Nodes.Wide.{only_spare}
use Rattle.sequence.proofs.tree.remove.spare_for.Given as given
use Rattle.sequence.proofs.tree.remove.spare_for.Goals as goal
use Rattle.sequence.proofs.tree.remove.spare_for.Goals.{In_ok-join_children, else-child-len, then-child-len}
use Rattle.sequence.proofs.tree.remove.spare_for.Goals.{then-len-eq1-via-then-len-eq1}
use Rattle.sequence.proofs.tree.remove.spare_for.Goals.{then-len-eq1-via-else-len-eq1+then-not-is_thin}

pub overflow_add-index : goal.overflow_add-index
overflow_add-index g c = omega (arith, c.requires.there, c.requires.children.list.room)

pub spot_of-spot-requires-clause-children : goal.spot_of-spot-requires-clause-children
spot_of-spot-requires-clause-children g c =
    subst (AreChildren g.L.Label.label_of) (sym c.deref.ensures.value) c.requires.children

pub spot_of-spot-requires-clause-within : goal.spot_of-spot-requires-clause-within
spot_of-spot-requires-clause-within g c =
    omega (arith, c.requires.there, ap (λ cs. length (items_in cs)) c.deref.ensures.value)

pub returns-then-len-eq1-clause-leads : goal.returns-then-len-eq1-clause-leads
returns-then-len-eq1-clause-leads g c = rw c.deref.ensures.value at c.spot_of-spot.ensures

pub returns-then-len-eq1-clause-spare : goal.returns-then-len-eq1-clause-spare
returns-then-len-eq1-clause-spare g c =
    let cs = c.args.children.now.items in
    let at = c.spot_of-spot.result.child in
    let within = (rw c.deref.ensures.value at c.spot_of-spot.ensures).within in
    elim c.then-len-eq1.branch [
      | then-len-eq1-via-then-len-eq1 w ↦
          let one : length cs ≡ 1 = omega (
            arith,
            ap (λ cs. length cs) c.deref.ensures.value,
            c.deref.ensures.len,
            c.len.ensures,
            w.if-len-eq1.true,
          ) in
          λ d. only_spare cs at d one within c.requires.wide
      | then-len-eq1-via-else-len-eq1+then-not-is_thin w ↦
          let e = w.index.result.now in
          let can : CanLose e.tree = elim w.is_thin.ensures [
            | inl thin ↦ absurd (true≢false (sym thin ∙ w.if-not-is_thin.true))
            | inr can ↦ can
          ] in
          λ d. subst (λ child. CanLose child.tree) (w.index.ensures ∙ get_or_default cs at e d within) can
    ]

pub overflow_add-place : goal.overflow_add-place
overflow_add-place g c =
    let cs = c.args.children.now.items in
    let i = c.spot_of-spot.result.child in
    let d = c.index-then-child-len.result.now in
    let leads = rw c.deref.ensures.value at c.spot_of-spot.ensures in
    let next : i - 1 + 1 ≡ i =
    omega (arith, c.if-child-len.true, c.len-2.ensures, c.len.ensures, c.if-len-eq1.false) in
    let before : i - 1 < length cs = omega (arith, leads.within) in
    omega (
      arith,
      leads.is,
      ap (λ child. child.len) c.index-then-child-len.ensures,
      (c.requires.children.each (i - 1) d before).counted,
      length-more cs (i - 1) d before,
      ap (λ n. length (items_in (take n cs))) next,
      c.requires.there,
      c.requires.children.list.room,
    )

pub join_children-requires-clause-within : goal.join_children-requires-clause-within
join_children-requires-clause-within g c =
    let within = (rw c.deref.ensures.value at c.spot_of-spot.ensures).within in
    elim c.if-child-len.branch [
      | then-child-len w ↦ omega (
        arith,
        w.child-is,
        w.if-child-len.true,
        c.len-2.ensures,
        c.len.ensures,
        c.if-len-eq1.false,
      )
      | else-child-len w ↦ omega (arith, w.child-is, w.if-child-len.false, c.len-2.ensures, within)
    ]

-- where the place is once two children are one
under : (g : given.Over) (c : In_ok-join_children g)
    → Leads c.join_children.new.children.items (c.args.index + 1)
    (record { child = c.if-child-len.child; place = c.if-child-len.place })
under g c =
    let cs = c.args.children.now.items in
    let new = c.join_children.new.children.items in
    let one = c.in_ok-join_children.ensures in
    let next = c.args.index + 1 in
    let spot = c.spot_of-spot.result in
    let at = c.if-child-len.child in
    let leads = rw c.deref.ensures.value at c.spot_of-spot.ensures in
    elim c.if-child-len.branch [
      | then-child-len w ↦
          let d = w.index-then-child-len.result.now in
          let last : spot.child ≡ at + 1 = omega (
            arith,
            w.child-is,
            w.if-child-len.true,
            c.len-2.ensures,
            c.len.ensures,
            c.if-len-eq1.false,
          ) in
          let there = one.second next spot.place d
          (subst (λ n. Leads cs next (record { child = n; place = spot.place })) last leads) in
          let same : (get_or cs at d).len + spot.place ≡ c.if-child-len.place = omega (
            arith,
            w.place-is,
            ap (λ child. child.len) w.index-then-child-len.ensures,
            ap (λ n. (get_or cs n d).len) w.child-is,
          ) in
          subst (λ n. Leads new next (record { child = at; place = n })) same there
      | else-child-len w ↦
          let here = subst (λ n. Leads cs next (record { child = n; place = spot.place })) (sym w.child-is) leads in
          one.first next c.if-child-len.place
          (subst (λ n. Leads cs next (record { child = at; place = n })) (sym w.place-is) here)
    ]

pub room_under-requires-clause-within : goal.room_under-requires-clause-within
room_under-requires-clause-within g c =
    (under g (goal.at.room_under-requires-clause-within g c).In_ok-join_children).within

pub returns-clause-same : goal.returns-clause-same
returns-clause-same g c = stand_on _ _ _ c.in_ok-join_children.ensures.same c.room_under.ensures.same

pub returns-clause-leads : goal.returns-clause-leads
returns-clause-leads g c =
    let leads = under g (goal.at.returns-clause-leads g c).In_ok-join_children in
    IfOk-weaker c.room_under.result _ _ (λ new to. to (c.args.index + 1) leads) c.room_under.ensures.leads

pub returns-clause-spare : goal.returns-clause-spare
returns-clause-spare g c =
    IfOk-weaker c.room_under.result _ _ (λ new to. to c.in_ok-join_children.ensures.spare) c.room_under.ensures.spare
