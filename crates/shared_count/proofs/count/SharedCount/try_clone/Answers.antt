use Rattle.shared_count.proofs.Calls.{after_clone}
use Rattle.shared_count.proofs.LegalHistories.{seen_mark-born}
use Rattle.shared_count.proofs.count.SharedCount.try_clone.Goals as goal

pub invariant_of-pass : goal.invariant_of-pass
invariant_of-pass c = let reply = c.clone_with-reply in
    (after_clone c.pass.invariant c.pass.view_is c.requires.owns reply.ensures.table reply.result c.born.ensures
    reply.ensures.reply).pass

pub returns : goal.returns
returns c =
    let reply = c.clone_with-reply in
    let after = after_clone c.pass.invariant c.pass.view_is c.requires.owns reply.ensures.table reply.result
    c.born.ensures reply.ensures.reply in
    record {
      pass = after.same;
      call = after.called;
      overtaken = after.overtaken;
      marked = seen_mark-born _ _ reply.result after.called after.overtaken;
      owned = after.handles;
    }
