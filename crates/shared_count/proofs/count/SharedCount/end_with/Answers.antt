use Rattle.std.proofs.Common.{◌∙◌, subst, sym}
use Rattle.counting_word.specs.declared.DropPlan.TheVariants as drop_as
use Rattle.shared_count.specs.History.{End, EndReply}
use Rattle.shared_count.specs.Inside.Shares.{InDrop, seeing}
use Rattle.shared_count.specs.Inside.Seats.{pass_at}
use Rattle.shared_count.specs.Inside.Steps.{Made, Looked}
use Rattle.shared_count.proofs.Calls.{can_step, looked_owns}
use Rattle.shared_count.proofs.HalfDone.{begun_by, made_after}
use Rattle.shared_count.proofs.Plays.{begins_end, lowers}
use Rattle.shared_count.proofs.count.SharedCount.end_with.Goals as goal

pub load-requires : goal.load-requires
load-requires c = let can = c.requires.pass in
    can_step c.self.view_is c.self.invariant c.requires.table can.whole can.opened can.owns (begins_end _ _ _)

pub returns-in-Static-clause-reply : goal.returns-in-Static-clause-reply
returns-in-Static-clause-reply c = let x = pass_at c.args.seat.now.me in
    begun_by x drop_as.Static c.load.result c.load.new.seat.me c.in-Static.ensures
    (c.load.ensures.2 x c.requires.pass.whole)

-- the load, if it leaves the end half done
read : (c : goal.After-fetch_sub-arg-1) → Looked (pass_at c.args.seat.now.me) InDrop c.load.new.seat.me
read c = let x = pass_at c.args.seat.now.me in
    begun_by x drop_as.Lower c.load.result c.load.new.seat.me c.in-Lower.ensures
    (c.load.ensures.2 x c.requires.pass.whole)

pub fetch_sub-requires : goal.fetch_sub-requires
fetch_sub-requires c = let can = c.requires.pass in
    can_step c.self.view_is c.self.invariant (c.load.ensures.0 ∙ c.requires.table) (read c).sees.seat can.opened
    (looked_owns (read c) can.owns) (lowers _ _ _)

pub returns-in-Lower-clause-reply : goal.returns-in-Lower-clause-reply
returns-in-Lower-clause-reply c =
    let x = pass_at c.args.seat.now.me in
    let last = c.fetch_sub.new.seat.me in
    let read = begun_by x drop_as.Lower c.load.result c.load.new.seat.me c.in-Lower.ensures
    (c.load.ensures.2 x c.requires.pass.whole) in
    subst (λ (r : EndReply). Made x (End r) last) (sym c.of_lower.ensures)
    (made_after x read.seen _ last read.others (c.fetch_sub.ensures.2 (seeing x read.seen) read.sees.seat))
