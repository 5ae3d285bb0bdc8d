use Rattle.std.proofs.Common.{◌∙◌}
use Rattle.std.proofs.lemmas.List.{take_rest}
use Rattle.sequence.proofs.labelled.parts.lists_of.Goals as goal

pub returns : goal.returns
returns g c = (c.in_ok-front.ensures, c.in_ok-back.ensures ∙ take_rest c.args.items.now c.args.at)
