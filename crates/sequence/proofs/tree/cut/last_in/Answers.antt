-- So many items were counted.
use Rattle.std.proofs.Common.{◌≡◌, ◌+◌, ◌∙◌, rules, sym}
use Rattle.sequence.specs.Cuts.{first}
use Rattle.sequence.proofs.Cuts.{cut_at, none_first, test_read}
use Rattle.sequence.proofs.tree.cut.last_in.Goals as goal
use Rattle.sequence.proofs.tree.cut.last_in.Goals.{else-at-eq0-via-else-at-eq0}
use Rattle.sequence.proofs.tree.cut.last_in.Goals.{else-at-eq0-via-then-at-eq0+else-not-item}

pub returns-then-not-item-clause-none : goal.returns-then-not-item-clause-none
returns-then-not-item-clause-none g c =
    none_first (g.C.Cut.is_before c.args.cut.now) c.args.items.now c.requires.cut c.index-items-0.result
    c.requires.some c.index-items-0.is (sym c.item.ensures ∙ c.if-not-item.true)

pub returns-then-not-item-clause-some : goal.returns-then-not-item-clause-some
returns-then-not-item-clause-some g c = tt

pub returns-clause-none : goal.returns-clause-none
returns-clause-none g c = tt

pub returns-clause-some : goal.returns-clause-some
returns-clause-some g c =
    let test = g.C.Cut.is_before c.args.cut.now in
    let es = c.args.items.now in
    let count : c.place_of-at.result + 1 ≡ first test es = elim c.else-at-eq0.branch [
      | else-at-eq0-via-then-at-eq0+else-not-item w ↦
          let read = test_read test es c.requires.cut 0 w.index-items-0.result c.requires.some w.index-items-0.is in
          search rules
      | else-at-eq0-via-else-at-eq0 w ↦ search rules
    ] in
    cut_at test es c.requires.cut (c.place_of-at.result + 1) count
