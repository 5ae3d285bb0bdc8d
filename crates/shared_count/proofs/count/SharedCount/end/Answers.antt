use Rattle.std.proofs.Common.{arith}
use Rattle.shared_count.proofs.Calls.{after_end}
use Rattle.shared_count.proofs.count.SharedCount.end.Goals as goal

pub invariant_of-pass : goal.invariant_of-pass
invariant_of-pass c = let reply = c.end_with-reply.ensures in
    (after_end c.pass.invariant c.pass.view_is c.requires.owns reply.table c.end_with-reply.result reply.reply).pass

pub returns : goal.returns
returns c =
    let reply = c.end_with-reply.ensures in
    let after = after_end c.pass.invariant c.pass.view_is c.requires.owns reply.table c.end_with-reply.result
    reply.reply in
    record { pass = after.same; call = after.called; owned = omega arith }
