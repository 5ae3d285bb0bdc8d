use Rattle.std.proofs.Common.{◌∙◌, arith, sym}
use Rattle.std.proofs.lemmas.Option.{none-some}
use Rattle.sequence.proofs.Cutting.Acts.{missed_at}
use Rattle.sequence.proofs.labelled.LabelledSequence.place.Goals as goal

pub returns-in-None : goal.returns-in-None
returns-in-None g c = record { cut = c.in-None.ensures.none; missed = λ item h. absurd (none-some item h) }

pub returns-in-Some : goal.returns-in-Some
returns-in-Some g c =
    let found = c.in-Some in
    record {
      item = found.item.now;
      cut = found.ensures.number;
      is = found.ensures.item;
      found = sym c.is_sought.ensures ∙ c.if-is_sought.true;
    }

pub overflow_add-result : goal.overflow_add-result
overflow_add-result g c = omega (arith, c.in-Some.ensures.number.within, c.len.ensures.fits)

pub returns-in-Some-2 : goal.returns-in-Some-2
returns-in-Some-2 g c =
    let sought = g.C.Seek.is_sought c.args.cut.now in
    let found = c.in-Some in
    record {
      cut = found.ensures.number;
      missed = missed_at sought c.args.self.now found.at found.item.now found.ensures.item
          (sym c.is_sought.ensures ∙ c.if-is_sought.false);
    }
