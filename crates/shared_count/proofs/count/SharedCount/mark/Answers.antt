use Rattle.std.proofs.Common.{refl, arith}
use Rattle.shared_count.specs.Inside.Seats.{pass_at}
use Rattle.shared_count.proofs.Calls.{can_call, after_ask}
use Rattle.shared_count.proofs.Plays.{marks}
use Rattle.shared_count.proofs.count.SharedCount.mark.Goals as goal

pub fetch_or-requires : goal.fetch_or-requires
fetch_or-requires c =
    can_call c.pass.invariant c.pass.view_is c.self.view_is c.self.invariant c.requires.count c.requires.owns
    (marks _ _ _)

pub invariant_of-pass : goal.invariant_of-pass
invariant_of-pass c =
    (after_ask c.pass.invariant c.pass.view_is c.requires.owns c.fetch_or.ensures.0 refl refl
    (c.fetch_or.ensures.2 (pass_at c.pass.inside.seat.me) c.pass.invariant.whole)).pass

pub returns : goal.returns
returns c =
    let after = after_ask c.pass.invariant c.pass.view_is c.requires.owns c.fetch_or.ensures.0 refl refl
    (c.fetch_or.ensures.2 (pass_at c.pass.inside.seat.me) c.pass.invariant.whole) in
    record { pass = after.same; call = after.called; owned = omega arith }
