use Rattle.std.proofs.Common.{◌≡◌, true, sym, ◌∙◌}
use Rattle.interner.proofs.Symbols.{found_there}
use Rattle.interner.proofs.table.Interner.intern_by.Goals as goal

pub returns-in-Some-clause-interned : goal.returns-in-Some-clause-interned
returns-in-Some-clause-interned g c =
    let pass = g.Q.Query.stands_for c.args.query in
    let equal = λ (x y : g.row.T.Denot) (e : pass x ≡ true). (g.met.Q.Query.is_form c.args.query x e).equal y in
    found_there g.met.T.Eq.laws pass equal c.args.self.now c.in-Some.symbol
    (sym c.in_ok-symbol.ensures.place ∙ c.in-Some.is) _
