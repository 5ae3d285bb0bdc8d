use Rattle.std.proofs.Common.{◌+◌, ◌∙◌, ap, refl, sym, true}
use Rattle.std.proofs.lemmas.Option.{none-some}
use Rattle.sequence.specs.Acts.{takes}
use Rattle.sequence.proofs.Cutting.Acts.{acted_gone, acted_none, missed, read_again, read_is}
use Rattle.sequence.proofs.tree.take.TakeAct.act.Goals as goal

pub returns-in-None-clause-done : goal.returns-in-None-clause-done
returns-in-None-clause-done g c =
    let test = g.C.Cut.is_before c.args.self.0 in
    let sought = g.C.Seek.is_sought c.args.self.0 in
    let cut = rw c.in-None.is at c.requires.none in
    let es = c.args.items.now.items in
    acted_none test (takes sought) es 0 cut true (λ item h. absurd (none-some item h), refl)

pub returns-then-not-is_sought-clause-done : goal.returns-then-not-is_sought-clause-done
returns-then-not-is_sought-clause-done g c =
    let test = g.C.Cut.is_before c.args.self.0 in
    let sought = g.C.Seek.is_sought c.args.self.0 in
    let es = c.args.items.now.items in
    let cut = rw c.in-Some.is at c.requires.some in
    let at = c.in-Some.at in
    let not = sym c.is_sought.ensures ∙ c.if-not-is_sought.true in
    let missed = missed es at c.index.result.now cut.within c.index.ensures sought not in
    acted_none test (takes sought) es (at + 1) cut true (missed, refl)

pub returns-clause-done : goal.returns-clause-done
returns-clause-done g c =
    let test = g.C.Cut.is_before c.args.self.0 in
    let sought = g.C.Seek.is_sought c.args.self.0 in
    let es = c.args.items.now.items in
    let cut = rw c.in-Some.is at c.requires.some in
    let at = c.in-Some.at in
    let item = c.remove.result in
    let same = read_again es at c.index.result.now cut.within c.index.ensures item c.remove.ensures.value in
    let found = ap sought same ∙ sym c.if-not-is_sought.ensures in
    rw c.remove.ensures.items (acted_gone test (takes sought) es at item cut
    (read_is es at item cut.within c.remove.ensures.value, (found, refl)))
