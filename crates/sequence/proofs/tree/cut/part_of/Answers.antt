use Rattle.std.proofs.Common.{inl, inr, arith}
use Rattle.std.proofs.lemmas.Bool.{cases_lt}
use Rattle.std.proofs.lemmas.List.Sums.{prefix_len-le-length}
use Rattle.sequence.proofs.tree.cut.part_of.Goals as goal

pub returns-clause-among : goal.returns-clause-among
returns-clause-among g c =
    let seen = c.along.invariant in
    record {
      behind = seen.before;
      up = elim (cases_lt c.along.at c.along.seen) [
        | inl less ↦ seen.to less
        | inr all ↦ omega (
          arith,
          all,
          c.along-test.false,
          prefix_len-le-length (g.C.Cut.is_before c.args.cut.now) c.args.items.now,
        )
      ];
    }
