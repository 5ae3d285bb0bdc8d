use Rattle.std.proofs.Common.{◌∙◌, ap, cond, drop, sym}
use Rattle.maps.proofs.Passed.{left_passed}
use Rattle.maps.proofs.entries.diff.Remaining.pass.Goals as goal

pub returns-then-goes : goal.returns-then-goes
returns-then-goes g c =
    let next = c.next-self-inside in
    left_passed c.self.inside.first next.result c.self.inside.behind next.new.self c.args.self.now c.self.invariant
    c.self.view_is next.ensures.steps
    ∙ sym (ap (λ goes. cond goes (drop 1 c.args.self.now) c.args.self.now) c.if-goes.true)
