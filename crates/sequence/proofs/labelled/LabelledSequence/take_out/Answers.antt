use Rattle.std.proofs.Common.{false, true}
use Rattle.sequence.proofs.Cutting.Acts.{says_absent, says_taken, still_absent}
use Rattle.sequence.proofs.labelled.LabelledSequence.take_out.Goals as goal

pub returns-in-Ok-clause-taken : goal.returns-in-Ok-clause-taken
returns-in-Ok-clause-taken g c =
    let test = g.C.Cut.is_before c.args.cut in
    let sought = g.C.Seek.is_sought c.args.cut in
    says_taken sought test c.args.self.now c.act.new.self false true c.in-Ok.found c.in-Ok.ensures.done

pub returns-in-Ok-clause-absent : goal.returns-in-Ok-clause-absent
returns-in-Ok-clause-absent g c =
    let test = g.C.Cut.is_before c.args.cut in
    let sought = g.C.Seek.is_sought c.args.cut in
    says_absent sought test c.args.self.now c.act.new.self false true c.in-Ok.found c.in-Ok.ensures.done

pub returns-in-Err-place-clause-absent : goal.returns-in-Err-place-clause-absent
returns-in-Err-place-clause-absent g c = (
  c.in-Err.ensures.blocked,
  still_absent g.C.Seek.is_sought g.C.Cut.is_before
      c.in-Err-place.field-0 (λ i. (c.in-Err.ensures.back i).0) c.in-Err.ensures.blocked c.in-Err-place.ensures,
)
