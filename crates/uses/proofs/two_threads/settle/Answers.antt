use Rattle.std.proofs.Common.{ℕ, ◌∙◌, ap, subst}
use Rattle.servo_arc.specs.History.{IsLegal, owned_by, calls_of}
use Rattle.servo_arc.specs.Passes.{CountId}
use Rattle.uses.proofs.TwoPasses.{own_is, spent_is, one_was_last}
use Rattle.uses.proofs.two_threads.settle.Goals as goal

pub returns : goal.returns
returns c =
    let met = c.meet.ensures in
    let a = c.args.first in
    let b = c.args.second in
    let a' = c.meet.new.first in
    let b' = c.meet.new.second in
    let two = ap (λ (n : CountId). n.passes) c.requires.first.0 ∙ c.requires.two in
    let legal : IsLegal 2 a'.seen = subst (λ (n : ℕ). IsLegal n a'.seen) two met.first_seen.legal in
    let spent = spent_is 0 a a' c.requires.first.1 met.first_pass.1 c.args.count.now c.requires.first.0 met.first_pass.0
    c.requires.two met.first_owned c.requires.spent.0 in
    let spent' = spent_is 1 b b' c.requires.second.1 met.second_pass.1 c.args.count.now c.requires.second.0
    met.second_pass.0 c.requires.two met.second_owned c.requires.spent.1 in
    one_was_last c.one_end_is_last.ensures a'.seen _ _ legal
    (own_is 0 a a' c.requires.first.1 met.first_pass.1 met.first_seen)
    (ap (calls_of 1) met.together ∙ own_is 1 b b' c.requires.second.1 met.second_pass.1 met.second_seen)
    spent (ap (owned_by 2 1) met.together ∙ spent') c.requires.unmarked
