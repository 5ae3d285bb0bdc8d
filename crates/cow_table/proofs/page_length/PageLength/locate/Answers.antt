-- By a power of two a shift divides, and a mask leaves the rest.
use Rattle.std.proofs.lemmas.Nat.{and_mask}
use Rattle.cow_table.proofs.page_length.PageLength.locate.Goals as goal

pub overflow_shr-result : goal.overflow_shr-result
overflow_shr-result c = (c.args.self.power c.in-Some.shift c.in-Some.is).0

pub returns-in-Some-clause-place : goal.returns-in-Some-clause-place
returns-in-Some-clause-place c =
    rw (c.args.self.power c.in-Some.shift c.in-Some.is).1 (and_mask c.args.i c.in-Some.shift)
