use Rattle.std.proofs.Common.{false, true}
use Rattle.sequence.proofs.Cutting.Acts.{says_added, says_replaced}
use Rattle.sequence.proofs.labelled.LabelledSequence.put_in.Goals as goal

pub returns-in-Ok-clause-replaced : goal.returns-in-Ok-clause-replaced
returns-in-Ok-clause-replaced g c =
    let test = g.P.Cut.is_before c.args.new in
    let sought = g.P.Seek.is_sought c.args.new in
    says_replaced sought test c.args.self.now c.act.new.self (g.P.Put.made c.args.new) (g.P.Put.replaced c.args.new)
    g.P.Put.put_out true false c.in-Ok.old c.in-Ok.ensures.done

pub returns-in-Ok-clause-added : goal.returns-in-Ok-clause-added
returns-in-Ok-clause-added g c =
    let test = g.P.Cut.is_before c.args.new in
    let sought = g.P.Seek.is_sought c.args.new in
    says_added sought test c.args.self.now c.act.new.self (g.P.Put.made c.args.new) (g.P.Put.replaced c.args.new)
    g.P.Put.put_out true false c.in-Ok.old c.in-Ok.ensures.done
