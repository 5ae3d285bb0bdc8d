use Rattle.std.proofs.Common.{◌+◌, ◌∙◌, ap, false, refl, sym}
use Rattle.std.specs.Fn.{FnOnceReturnsAtMut}
use Rattle.std.proofs.lemmas.Option.{none-some}
use Rattle.sequence.specs.Acts.{changes}
use Rattle.sequence.proofs.Cutting.Acts.{acted_none, acted_set, found_at, missed, read_again}
use Rattle.sequence.proofs.Nodes.Labelled.{first_set}
use Rattle.sequence.proofs.tree.change.ChangeAct.act.Goals as goal

pub returns-in-None-clause-done : goal.returns-in-None-clause-done
returns-in-None-clause-done g c =
    let test = g.C.Cut.is_before c.args.self.cut in
    let sought = g.C.Seek.is_sought c.args.self.cut in
    let does = changes sought g.F.FnOnce c.args.self.change in
    let cut = rw c.in-None.is at c.requires.none in
    acted_none test does c.args.items.now.items 0 cut false (λ item h. absurd (none-some item h), refl)

pub returns-then-not-is_sought-clause-done : goal.returns-then-not-is_sought-clause-done
returns-then-not-is_sought-clause-done g c =
    let test = g.C.Cut.is_before c.args.self.cut in
    let sought = g.C.Seek.is_sought c.args.self.cut in
    let does = changes sought g.F.FnOnce c.args.self.change in
    let es = c.args.items.now.items in
    let cut = rw c.in-Some.is at c.requires.some in
    let at = c.in-Some.at in
    let not = sym c.is_sought.ensures ∙ c.if-not-is_sought.true in
    acted_none test does es (at + 1) cut false
    (missed es at c.index.result.now cut.within c.index.ensures sought not, refl)

pub change-requires : goal.change-requires
change-requires g c =
    let test = g.C.Cut.is_before c.args.self.cut in
    let sought = g.C.Seek.is_sought c.args.self.cut in
    let es = c.args.items.now.items in
    let cut = rw c.in-Some.is at c.requires.some in
    let at = c.in-Some.at in
    let old = c.index_mut.result.now in
    let value = c.index_mut.ensures.value in
    let same = read_again es at c.index.result.now cut.within c.index.ensures old value in
    let there = found_at es at old cut.within value sought test cut (ap sought same ∙ sym c.if-not-is_sought.ensures) in
    (c.requires.needs at there).0 _ refl

pub returns-clause-done : goal.returns-clause-done
returns-clause-done g c =
    let test = g.C.Cut.is_before c.args.self.cut in
    let sought = g.C.Seek.is_sought c.args.self.cut in
    let does = changes sought g.F.FnOnce c.args.self.change in
    let es = c.args.items.now.items in
    let cut = rw c.in-Some.is at c.requires.some in
    let at = c.in-Some.at in
    let old = c.index_mut.result.now in
    let value = c.index_mut.ensures.value in
    let same = read_again es at c.index.result.now cut.within c.index.ensures old value in
    let there = found_at es at old cut.within value sought test cut (ap sought same ∙ sym c.if-not-is_sought.ensures) in
    let after = c.change.new.arg2 in
    let called : FnOnceReturnsAtMut g.F.FnOnce c.args.self.change old c.change.result after =
    record { shown = _; shows = refl; left = _; met = c.change.ensures; leaves = refl } in
    acted_set test does es at c.change.result cut false after
    (old, (after, (there.is, (there.found, (called, refl)))))

pub returns-clause-first : goal.returns-clause-first
returns-clause-first g c =
    let test = g.C.Cut.is_before c.args.self.cut in
    let sought = g.C.Seek.is_sought c.args.self.cut in
    let es = c.args.items.now.items in
    let cut = rw c.in-Some.is at c.requires.some in
    let at = c.in-Some.at in
    let old = c.index_mut.result.now in
    let value = c.index_mut.ensures.value in
    let same = read_again es at c.index.result.now cut.within c.index.ensures old value in
    let there = found_at es at old cut.within value sought test cut (ap sought same ∙ sym c.if-not-is_sought.ensures) in
    let after = c.change.new.arg2 in
    let called : FnOnceReturnsAtMut g.F.FnOnce c.args.self.change old c.change.result after =
    record { shown = _; shows = refl; left = _; met = c.change.ensures; leaves = refl } in
    let kept = (c.requires.needs at there).1 after c.change.result called in
    λ h. first_set g.L.Label.label_of es at old after there.is kept
