use Rattle.counting_word.specs.declared.ClonePlan.TheVariants as plan
use Rattle.shared_count.specs.Inside.Seats.{pass_at}
use Rattle.shared_count.proofs.Calls.{can_step}
use Rattle.shared_count.proofs.HalfDone.{judged_by, lost}
use Rattle.shared_count.proofs.Plays.{raises}
use Rattle.shared_count.proofs.count.SharedCount.raise_with.Goals as goal

pub compare_exchange-found-requires : goal.compare_exchange-found-requires
compare_exchange-found-requires c = let can = c.requires.pass in
    can_step c.self.view_is c.self.invariant c.requires.table can.whole can.opened can.owns
    (raises _ _ _ c.args.word c.args.raised c.requires.plan)

pub returns-in-Full-clause-reply : goal.returns-in-Full-clause-reply
returns-in-Full-clause-reply c =
    let x = pass_at c.args.seat.now.me in
    let try = c.compare_exchange-found in
    judged_by x plan.Full try.result try.new.seat.me c.in-Full.ensures
    ((try.ensures.2 x c.requires.pass.whole).1 c.if-found-word.false)

pub returns-in-Raise-clause-reply : goal.returns-in-Raise-clause-reply
returns-in-Raise-clause-reply c =
    let x = pass_at c.args.seat.now.me in
    let try = c.compare_exchange-found in
    let told = judged_by x (plan.Raise c.in-Raise.field-0) try.result try.new.seat.me c.in-Raise.ensures
    ((try.ensures.2 x c.requires.pass.whole).1 c.if-found-word.false) in
    lost c.args.self.now.passes c.args.seat.now.me try.new.seat.me c.requires.pass c.args.word try.result
    c.requires.read told c.if-found-word.false
