use Rattle.std.proofs.Common.{◌∙◌, ap, sym}
use Rattle.std.proofs.lemmas.List.Sums.{fold-append}
use Rattle.std.specs.Hash.{le_bytes}
use Rattle.std.specs.List.{flat_map, fold}
use Rattle.sequence.proofs.compare.LabelledSequenceHash.hash.Goals as goal

pub loop-item-init : goal.loop-item-init
loop-item-init g c =
    ap (λ es. fold g.H.Hasher.write c.write_usize.new.self (flat_map g.T.Hash.hash_input es))
    c.into_iter-item-iterator.ensures.into_iter_gives

pub loop-item-preserved : goal.loop-item-preserved
loop-item-preserved g c =
    let write = g.H.Hasher.write in
    let input = g.T.Hash.hash_input in
    let left = flat_map input c.next.new.self in
    let state = c.loop-item.state in
    ap (λ s. fold write s left) c.hash.ensures ∙ sym (fold-append write state (input c.in-Some.item.now) left)
    ∙ sym (ap (λ es. fold write state (flat_map input es)) c.in-Some.ensures.steps) ∙ c.loop-item.invariant

pub returns : goal.returns
returns g c =
    let write = g.H.Hasher.write in
    let input = g.T.Hash.hash_input in
    ap (λ es. fold write c.loop-item.state (flat_map input es)) (sym c.in-None.ensures.steps.0)
    ∙ c.loop-item.invariant
    ∙ ap (λ s. fold write s (flat_map input c.args.self.now))
    (c.write_usize.ensures ∙ ap (λ n. write c.args.state.now (le_bytes 8 n)) c.len.ensures.count)
