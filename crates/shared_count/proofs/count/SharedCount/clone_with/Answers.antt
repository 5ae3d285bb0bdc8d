use Rattle.counting_word.specs.declared.ClonePlan.TheVariants as plan
use Rattle.shared_count.specs.Inside.Seats.{pass_at}
use Rattle.shared_count.specs.Inside.Steps.{Counted}
use Rattle.shared_count.proofs.Calls.{can_step}
use Rattle.shared_count.proofs.HalfDone.{judged_by, can_raise, has_read, replied}
use Rattle.shared_count.proofs.Plays.{begins_clone}
use Rattle.shared_count.proofs.count.SharedCount.clone_with.Goals as goal

pub load-word-requires : goal.load-word-requires
load-word-requires c = let can = c.requires.pass in
    can_step c.self.view_is c.self.invariant c.requires.table can.whole can.opened can.owns (begins_clone _ _ _)

-- the read, if it leaves the clone half done
read : (c : goal.After-raise_with-arg-1)
    → Counted (pass_at c.args.seat.now.me) c.load-word.result c.load-word.new.seat.me
read c = let x = pass_at c.args.seat.now.me in
    judged_by x (plan.Raise c.in-Raise.raised) c.load-word.result c.load-word.new.seat.me c.in-Raise.ensures
    (c.load-word.ensures.2 x c.requires.pass.whole)

pub raise_with-requires-clause-pass : goal.raise_with-requires-clause-pass
raise_with-requires-clause-pass c =
    can_raise c.args.self.now.passes c.args.seat.now.me c.load-word.new.seat.me c.requires.pass c.load-word.result
    (read c)

pub raise_with-requires-clause-read : goal.raise_with-requires-clause-read
raise_with-requires-clause-read c =
    has_read c.args.self.now.passes c.args.seat.now.me c.load-word.new.seat.me c.requires.pass c.load-word.result
    (read c)

pub returns-in-Static-clause-reply : goal.returns-in-Static-clause-reply
returns-in-Static-clause-reply c = let x = pass_at c.args.seat.now.me in
    judged_by x plan.Static c.load-word.result c.load-word.new.seat.me c.in-Static.ensures
    (c.load-word.ensures.2 x c.requires.pass.whole)

pub returns-in-Full-clause-reply : goal.returns-in-Full-clause-reply
returns-in-Full-clause-reply c = let x = pass_at c.args.seat.now.me in
    judged_by x plan.Full c.load-word.result c.load-word.new.seat.me c.in-Full.ensures
    (c.load-word.ensures.2 x c.requires.pass.whole)

pub returns-in-Raise-clause-reply : goal.returns-in-Raise-clause-reply
returns-in-Raise-clause-reply c =
    let x = pass_at c.args.seat.now.me in
    let told = judged_by x (plan.Raise c.in-Raise.raised) c.load-word.result c.load-word.new.seat.me c.in-Raise.ensures
    (c.load-word.ensures.2 x c.requires.pass.whole) in
    replied c.args.self.now.passes c.args.seat.now.me c.load-word.new.seat.me c.requires.pass c.load-word.result told
    c.raise_with.result c.raise_with.new.seat.me c.raise_with.ensures.reply
