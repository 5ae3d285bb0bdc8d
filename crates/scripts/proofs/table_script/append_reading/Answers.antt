use Rattle.std.proofs.Common.{◌≡◌, ◌++◌, [], OnOk, subst}
use Rattle.scripts.specs.Script.{answer_text}
use Rattle.scripts.proofs.Showing.{missing_shown}
use Rattle.scripts.proofs.table_script.append_reading.Goals as goal

pub returns-in-Err : goal.returns-in-Err
returns-in-Err g c =
    subst (λ printed. OnOk c.append_reply.result
    (c.append_reply.new.gathered.items ≡ c.args.gathered.now.items ++ answer_text printed))
    (missing_shown _ _ c.in-Err.missing (c.in-Err.ensures.missing (λ _. []))) c.append_reply.ensures
