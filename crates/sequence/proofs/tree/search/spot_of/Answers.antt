-- The children that were passed by have fewer items than the place, and the next one has no fewer.
use Rattle.std.proofs.Common.{◌+◌, ◌<◌, inl, inr, ap, arith, length}
use Rattle.std.proofs.lemmas.Bool.{cases_lt}
use Rattle.std.proofs.lemmas.List.{get_or_default, take_all}
use Rattle.sequence.specs.Nodes.{items_in}
use Rattle.sequence.proofs.Nodes.Children.{length-more}
use Rattle.sequence.proofs.Nodes.Wide.{some_in}
use Rattle.sequence.proofs.tree.search.spot_of.Goals as goal

pub along-preserved : goal.along-preserved
along-preserved g c =
    let cs = c.args.children.now in
    let at = c.along.child in
    let here = c.along.invariant in
    let d = c.index-children-child-in-along.result in
    let more = length-more cs at d here.within in
    let len = (c.requires.children.each at d here.within).counted in
    let test = c.along-test.true in
    let same = ap (λ child. child.len) (get_or_default cs at d c.index-children-child.result here.within) in
    let within : at + 1 < length cs = elim (cases_lt (at + 1) (length cs)) [
      | inl is ↦ is
      | inr all ↦ absurd (omega (
        arith,
        more,
        len,
        here.left,
        test,
        same,
        c.requires.within,
        ap (λ xs. length (items_in xs)) (take_all (at + 1) cs all),
      ))
    ] in
    record {
      within = within;
      left = omega (arith, more, len, here.left, test, same);
      inner = λ some. omega (arith, test, same);
    }

pub returns : goal.returns
returns g c =
    let cs = c.args.children.now in
    let at = c.along.child in
    let here = c.along.invariant in
    record {
      within = here.within;
      inside = λ d. omega (
        arith,
        c.along-test.false,
        (c.requires.children.each at d here.within).counted,
        ap (λ child. child.len) (get_or_default cs at d c.index-children-child.result here.within),
      );
      is = here.left;
      inner = here.inner;
    }

pub overflow_sub-left : goal.overflow_sub-left
overflow_sub-left g c =
    let at = c.along.child in
    let d = c.index-children-child-in-along.result in
    omega (
      arith,
      c.along-test.true,
      ap (λ child. child.len) (get_or_default c.args.children.now at d c.index-children-child.result
          c.along.invariant.within),
    )

pub along-init : goal.along-init
along-init g c = record {
  within = some_in c.args.children.now c.requires.children;
  left = omega arith;
  inner = λ some. some;
}
