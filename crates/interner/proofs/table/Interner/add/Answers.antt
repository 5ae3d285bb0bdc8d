use Rattle.std.proofs.Common.{ap, ◌∙◌}
use Rattle.std.specs.List.{position_or_len}
use Rattle.interner.specs.Symbols.{with_value}
use Rattle.interner.proofs.Symbols.{interned}
use Rattle.interner.proofs.table.Interner.add.Goals as goal

pub returns-clause-interned : goal.returns-clause-interned
returns-clause-interned g c =
    let eq = g.T.PartialEq.eq in
    let put = c.in_ok-index.ensures in
    interned g.met.T.Eq.laws c.args.self.now c.args.value c.insert_full.new.self.keys c.of.result
    (put.keys ∙ ap (λ old. with_value eq old c.args.value) c.self.view_is)
    (c.of.ensures ∙ put.index ∙ ap (position_or_len (eq c.args.value)) c.self.view_is)
