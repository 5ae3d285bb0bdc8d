use Rattle.std.proofs.Common.{[], ◌++◌, refl, sym, subst, append-nil, arith}
use Rattle.std.proofs.KnownBytes.{Appends-nil, Appends-trans}
use Rattle.scripts.specs.Script.{stops, SomeLines}
use Rattle.scripts.specs.declared.fault.Fault.TheVariants.{Output, Memory}
use Rattle.scripts.proofs.Runs.{SoFar, SoFar-none, SoFar-more, SoFar-written, SoFar-faulty}
use Rattle.scripts.proofs.Runs.{whole, stopped, stopped_by, stopped_between, ended}
use Rattle.scripts.proofs.script.answer_lines.Goals as goal

pub returns-in_err-part-clause-wrote : goal.returns-in_err-part-clause-wrote
returns-in_err-part-clause-wrote g c =
    stopped_between _ _ _ _ _ (stopped_by Memory tt _ c.from_residual.ensures.1) _ _ _ _ _ _ _
    (SoFar-none _ _ _ _) (Appends-nil _)

pub loop-line-init : goal.loop-line-init
loop-line-init g c = record {
  so_far = (
    [],
    subst (λ part. SoFar g.I.Interpreter.answers g.I.Interpreter.is_faulty c.args.interpreter.now c.args.script.now
        0 [] part c.args.interpreter.now c.args.script.now) (sym c.in_ok-part.ensures.items) (SoFar-none _ _ _ _),
    Appends-nil _,
  );
  in_range = omega arith;
}

pub returns-in_err-append_with_number-clause-wrote : goal.returns-in_err-append_with_number-clause-wrote
returns-in_err-append_with_number-clause-wrote g c =
    let (written, so, appended) = c.loop-line.invariant.so_far in
    let stop = stopped_by Memory tt _ c.from_residual-in_err-append_with_number.ensures.1 in
    rw c.in_default-answer_to.ensures.unchanged (stopped_between _ _ _ _ _ stop _ _ _ _ _ _ _ so appended)

pub returns-in_err-write_last-clause-wrote : goal.returns-in_err-write_last-clause-wrote
returns-in_err-write_last-clause-wrote g c =
    let (written, so, appended) = c.loop-line.invariant.so_far in
    let ran = SoFar-faulty _ _ _ _ _ _ _ c.append_with_number.new.gathered.items _ _ c.in-Some.after.now _ _ so
    c.in-Some.ensures.first c.in_default-answer_to.ensures.faulty c.in_default-answer_to.ensures.unchanged
    (rw c.in_default-answer_to.ensures.kept at c.in_ok-append_with_number.ensures) in
    let stop = stopped_by Output tt _ (rw c.in_err-write_last.ensures.fault at
    c.from_residual-in_err-write_last.ensures.1) in
    stopped _ _ _ _ _ stop _ _ _ _ _ _ _ ran appended (rw c.deref.ensures.value at c.in_err-write_last.ensures.begun)

pub returns-in_default-answer_to-clause-wrote : goal.returns-in_default-answer_to-clause-wrote
returns-in_default-answer_to-clause-wrote g c =
    let (written, so, appended) = c.loop-line.invariant.so_far in
    let ran = SoFar-faulty _ _ _ _ _ _ _ c.append_with_number.new.gathered.items _ _ c.in-Some.after.now _ _ so
    c.in-Some.ensures.first c.in_default-answer_to.ensures.faulty c.in_default-answer_to.ensures.unchanged
    (rw c.in_default-answer_to.ensures.kept at c.in_ok-append_with_number.ensures) in
    whole _ _ _ _ _ _ _ _ _ _ _ _ (refl, refl) ran appended
    (rw c.deref.ensures.value at c.in_ok-write_last.ensures.written)

pub returns-in_err-appended-clause-wrote : goal.returns-in_err-appended-clause-wrote
returns-in_err-appended-clause-wrote g c =
    let (written, so, appended) = c.loop-line.invariant.so_far in
    let (text, answered, gathered) = c.in-Some-answer_to.ensures.answered in
    stopped_between _ _ _ _ _ (stopped_by Memory tt _ c.from_residual-in_err-appended.ensures.1) _ _ _ _ _ _ _
    (SoFar-more _ _ _ _ _ _ _ _ c.in-Some.line.now _ _ c.in-Some.after.now _ _ so c.in-Some.ensures.first
    answered refl) appended

pub returns-in_err-write_part-clause-wrote : goal.returns-in_err-write_part-clause-wrote
returns-in_err-write_part-clause-wrote g c =
    let (written, so, appended) = c.loop-line.invariant.so_far in
    let (text, answered, gathered) = c.in-Some-answer_to.ensures.answered in
    let more = SoFar-more _ _ _ _ _ _ _ c.answer_to.new.gathered.items c.in-Some.line.now _ _ c.in-Some.after.now _ _ so
    c.in-Some.ensures.first answered (rw c.in_ok-appended.was at gathered) in
    let stop = stopped_by Output tt _ (rw c.in_err-write_part.ensures.fault at
    c.from_residual-in_err-write_part.ensures.1) in
    stopped _ _ _ _ _ stop _ _ _ _ _ _ _ (rw append-nil at (more.after SomeLines [] _ stops)) appended
    c.in_err-write_part.ensures.begun

pub loop-line-preserved-in_ok-write_part : goal.loop-line-preserved-in_ok-write_part
loop-line-preserved-in_ok-write_part g c =
    let (written, so, appended) = c.loop-line.invariant.so_far in
    let (text, answered, gathered) = c.in-Some-answer_to.ensures.answered in
    let more = SoFar-more _ _ _ _ _ _ _ c.answer_to.new.gathered.items c.in-Some.line.now _ _ c.in-Some.after.now _ _ so
    c.in-Some.ensures.first answered (rw c.in_ok-appended.was at gathered) in
    record {
      so_far = (
        written ++ c.answer_to.new.gathered.items,
        SoFar-written _ _ _ _ _ _ _ _ _ _ more c.in_ok-write_part.ensures.emptied,
        Appends-trans _ _ _ written _ appended c.in_ok-write_part.ensures.written,
      );
      in_range = omega (arith, c.in-Some.ensures.shorter);
    }

pub loop-line-preserved : goal.loop-line-preserved
loop-line-preserved g c =
    let (written, so, appended) = c.loop-line.invariant.so_far in
    let (text, answered, gathered) = c.in-Some-answer_to.ensures.answered in
    record {
      so_far = (
        written,
        SoFar-more _ _ _ _ _ _ _ _ c.in-Some.line.now _ _ c.in-Some.after.now _ _ so c.in-Some.ensures.first answered
            (rw c.in_ok-appended.was at gathered),
        appended,
      );
      in_range = omega (arith, c.in-Some.ensures.shorter);
    }

pub returns-clause-wrote : goal.returns-clause-wrote
returns-clause-wrote g c =
    let (written, so, appended) = c.loop-line.invariant.so_far in
    ended _ _ _ _ _ _ _ _ _ _ _ _ _ so c.in_default.ensures.end appended
    (rw c.deref-2.ensures.value at c.write_last-2.ensures.written)
    (rw c.deref-2.ensures.value at c.write_last-2.ensures.begun) c.write_last-2.ensures.fault
