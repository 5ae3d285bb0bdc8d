use Rattle.std.proofs.Common.{refl, ap, arith}
use Rattle.shared_count.specs.History.{Static}
use Rattle.shared_count.specs.Inside.Seats.{pass_at}
use Rattle.shared_count.proofs.Calls.{can_call, after_ask}
use Rattle.shared_count.proofs.Plays.{asks_static}
use Rattle.shared_count.proofs.count.SharedCount.is_static.Goals as goal

pub load-requires : goal.load-requires
load-requires c =
    can_call c.pass.invariant c.pass.view_is c.self.view_is c.self.invariant c.requires.count c.requires.owns
    (asks_static _ _ _)

pub invariant_of-pass : goal.invariant_of-pass
invariant_of-pass c =
    (after_ask c.pass.invariant c.pass.view_is c.requires.owns c.load.ensures.0 refl refl
    (c.load.ensures.2 (pass_at c.pass.inside.seat.me) c.pass.invariant.whole)).pass

pub returns : goal.returns
returns c =
    let after = after_ask c.pass.invariant c.pass.view_is c.requires.owns c.load.ensures.0
    (ap Static c.is_marked.ensures) refl (c.load.ensures.2 (pass_at c.pass.inside.seat.me) c.pass.invariant.whole) in
    record { pass = after.same; call = after.called; owned = omega arith }
