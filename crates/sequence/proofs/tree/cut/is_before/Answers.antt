use Rattle.std.proofs.Common.{◌∙◌}
use Rattle.sequence.proofs.Cuts.{test_read}
use Rattle.sequence.proofs.tree.cut.is_before.Goals as goal

pub returns : goal.returns
returns g c =
    c.item.ensures
    ∙ test_read (g.C.Cut.is_before c.args.cut.now) c.args.items.now c.requires.cut c.args.at
    c.index-items-at.result c.requires.within c.index-items-at.is
