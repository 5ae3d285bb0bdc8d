use Rattle.std.proofs.Common.{arith}
use Rattle.std.specs.Cmp.Lexicographic.{lists_equiv}
use Rattle.interner.proofs.query.RefSliceMakeVec.make.Goals as goal

pub returns-clause-stands : goal.returns-clause-stands
returns-clause-stands g c = grind (arith, (lists_equiv g.met.T.Eq.laws).refl c.args.self.now)
