use Rattle.std.proofs.Common.{◌∙◌, [], ◌∷◌, ap, sym, true}
use Rattle.sequence.specs.Acts.{puts}
use Rattle.sequence.proofs.Cutting.Acts.{acted_set, missed, read_again, read_is}
use Rattle.sequence.proofs.tree.put.PutInAct.act.Goals as goal

pub returns-then-is_sought-clause-done : goal.returns-then-is_sought-clause-done
returns-then-is_sought-clause-done g c =
    let test = g.P.Cut.is_before c.args.self.0 in
    let sought = g.P.Seek.is_sought c.args.self.0 in
    let does = puts sought (g.P.Put.made c.args.self.0) (g.P.Put.replaced c.args.self.0) g.P.Put.put_out in
    let es = c.args.items.now.items in
    let cut = rw c.in-Some.is at c.requires.some in
    let at = c.in-Some.at in
    let old = c.index_mut.result.now in
    let same = read_again es at c.index.result.now cut.within c.index.ensures old c.index_mut.ensures.value in
    let found = ap sought same ∙ sym c.if-is_sought.ensures in
    let is = read_is es at old cut.within c.index_mut.ensures.value in
    acted_set test does es at c.replace.result cut true c.replace.new.item
    (old, (is, (found, (c.replace.ensures.old, ap (λ e. e ∷ []) c.replace.ensures.item))))

pub add-requires-2-clause-missed : goal.add-requires-2-clause-missed
add-requires-2-clause-missed g c =
    let sought = g.P.Seek.is_sought c.args.self.0 in
    let cut = rw c.in-Some.is at c.requires.some in
    missed c.args.items.now.items c.in-Some.at c.index.result.now cut.within c.index.ensures sought
    (sym c.is_sought.ensures ∙ c.if-is_sought.false)
