use Rattle.std.proofs.Common.{arith}
use Rattle.std.proofs.lemmas.Grind.{common_steps}
use Rattle.interner.proofs.Symbols.{was_there}
use Rattle.interner.proofs.map.InternMap.get_or_insert.Goals as goal

pub invariant_of-self-then-index-len : goal.invariant_of-self-then-index-len
invariant_of-self-then-index-len g c =
    let interned = c.in_ok-symbol.ensures.interned in
    grind (arith, common_steps, was_there interned g.met.K.Eq.laws, interned.values)

pub returns-then-index-len-clause-value : goal.returns-then-index-len-clause-value
returns-then-index-len-clause-value g c =
    let interned = c.in_ok-symbol.ensures.interned in
    grind (arith, was_there interned g.met.K.Eq.laws, c.self.view_is)

pub invariant_of-self-2 : goal.invariant_of-self-2
invariant_of-self-2 g c =
    let interned = c.in_ok-symbol.ensures.interned in
    grind (arith, common_steps, was_there interned g.met.K.Eq.laws, interned.values)

pub returns-clause-value : goal.returns-clause-value
returns-clause-value g c =
    let interned = c.in_ok-symbol.ensures.interned in
    grind (arith, was_there interned g.met.K.Eq.laws, c.self.view_is)
