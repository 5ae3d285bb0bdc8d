use Rattle.std.proofs.Common.{All, subst, ◌≡◌, ◌∷◌, [], length, ap, ◌∙◌, append_assoc, arith}
use Rattle.std.specs.Vec.Iter.{into_iter_items}
use Rattle.std.proofs.lemmas.List.Elements.{All-tail}
use Rattle.tables.proofs.RunLemmas.{run_more}
use Rattle.tables.proofs.serve.serve_all.Goals as goal

pub loop-command-preserved : goal.loop-command-preserved
loop-command-preserved g c =
    let at = c.loop-command in
    let command = c.in-Some.command in
    let steps : into_iter_items at.command-iterator ≡ command ∷ into_iter_items c.next.new.self =
    c.in-Some.ensures.steps.0 in
    let fewer = c.in-Some.ensures.steps.1 in
    let was = at.invariant.left in
    let short = ap length steps in
    record {
      all = append_assoc at.yielded (command ∷ []) _ ∙ rw (← steps) at.invariant.all;
      left = omega arith;
      room = let room = at.invariant.room in let len = c.push_reserved.ensures.len in
          rw c.push_reserved.ensures.capacity (omega arith);
      servable = All-tail g.S.Serve.can_serve command _ (subst (All g.S.Serve.can_serve) steps at.invariant.servable);
      run = rw c.push_reserved.ensures.items (run_more g.S.Serve.meaning at.yielded c.args.table.now at.replies.items
          at.table c.serve_one.new.self command c.serve_one.result at.invariant.run c.serve_one.ensures);
    }
