-- What was kept so far, and at the end.
use Rattle.std.proofs.Common.{◌++◌, ◌∙◌, ◌∷◌, [], List, ap, of_calls, refl, subst, sym, true, false}
use Rattle.std.specs.Fn.{CalledAt}
use Rattle.std.specs.List.Retain.{IsFiltered}
use Rattle.std.proofs.lemmas.Fn.{called}
use Rattle.sequence.proofs.Lists.Kept.{kept_all, kept_no, kept_yes}
use Rattle.sequence.proofs.labelled.LabelledSequence.kept.Goals as goal

pub loop-item-init : goal.loop-item-init
loop-item-init g c =
    let Items : Type 0 = List g.row.T.Denot in (
      c.requires.callable,
      λ ys is. subst (λ (kept : Items). IsFiltered (CalledAt g.F.FnMut) c.args.keep c.args.self.now (kept ++ ys))
          (sym c.in_ok-items.ensures.items)
          (subst (λ (es : Items). IsFiltered (CalledAt g.F.FnMut) c.args.keep es ys)
          c.into_iter-item-iterator.ensures.into_iter_gives is),
    )

pub loop-item-preserved-in_ok-push : goal.loop-item-preserved-in_ok-push
loop-item-preserved-in_ok-push g c =
    let here = c.loop-item in
    let says : CalledAt g.F.FnMut here.keep c.in-Some.item.now true c.keep.new.self =
    record { shown = _; shows = refl; called = called g.F.FnMut c.keep.ensures c.if-keep.true } in (
      search of_calls,
      kept_yes (CalledAt g.F.FnMut) c.args.keep c.args.self.now here.keep c.keep.new.self c.in-Some.item.now
          here.item-iterator c.next.new.self here.items.items c.push.new.self.items here.invariant.1
          c.in-Some.ensures.steps says
          (c.in_ok-push.ensures.items ∙ ap (λ e. here.items.items ++ e ∷ [])
          (c.requires.copies _ _ c.in_ok-clone.ensures.cases)),
    )

pub loop-item-preserved : goal.loop-item-preserved
loop-item-preserved g c =
    let here = c.loop-item in
    let says : CalledAt g.F.FnMut here.keep c.in-Some.item.now false c.keep.new.self =
    record { shown = _; shows = refl; called = called g.F.FnMut c.keep.ensures c.if-keep.false } in (
      search of_calls,
      kept_no (CalledAt g.F.FnMut) c.args.keep c.args.self.now here.keep c.keep.new.self c.in-Some.item.now
          here.item-iterator c.next.new.self here.items.items here.invariant.1 c.in-Some.ensures.steps says,
    )

pub returns : goal.returns
returns g c =
    kept_all (CalledAt g.F.FnMut) c.args.keep c.args.self.now c.loop-item.keep c.loop-item.item-iterator
    c.loop-item.items.items c.loop-item.invariant.1 c.in-None.ensures.steps.0
