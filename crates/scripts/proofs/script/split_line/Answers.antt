use Rattle.std.proofs.Common.{length, sym, ◌≢◌, arith}
use Rattle.std.proofs.lemmas.Bool.{eqb-false}
use Rattle.std.proofs.lemmas.List.{take_rest}
use Rattle.scripts.proofs.ScriptLines.{line_up_to, only_line}
use Rattle.scripts.proofs.script.split_line.Goals as goal

pub returns-in-Some-clause-first : goal.returns-in-Some-clause-first
returns-in-Some-clause-first c =
    rw take_rest (line_up_to c.args.text.now c.in-Some.at c.in-Some.ensures.0.high c.in-Some.ensures.0.before
    c.in-Some.ensures.1)

pub returns-in-None-clause-first : goal.returns-in-None-clause-first
returns-in-None-clause-first c =
    let some : length c.args.text.now ≢ 0 = eqb-false _ 0 (sym c.if-is_empty.ensures) in
    only_line c.args.text.now (omega arith) c.in-None.ensures
