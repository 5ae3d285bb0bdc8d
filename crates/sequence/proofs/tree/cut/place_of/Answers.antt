use Rattle.std.proofs.Common.{arith}
use Rattle.std.proofs.lemmas.List.Sums.{prefix_len-le-length}
use Rattle.sequence.proofs.tree.cut.place_of.Goals as goal

-- the last part that is whole begins no later
pub quarter_of-at-requires-clause-among : goal.quarter_of-at-requires-clause-among
quarter_of-at-requires-clause-among g c =
    let part = c.part_of-2.ensures.among in
    let least = c.min-at.ensures in
    let within = prefix_len-le-length (g.C.Cut.is_before c.args.cut.now) c.args.items.now in
    record {
      behind = λ some. omega (arith, part.behind (omega (arith, some, least)), least);
      up = omega (arith, part.up, least, within, c.if-items-lt-PART.false);
    }
