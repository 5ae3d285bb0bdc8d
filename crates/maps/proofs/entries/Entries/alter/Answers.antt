-- The answer of the closure stands under the key.
use Rattle.std.proofs.Common.{◌≡◌, ◌∙◌, None, Some, ap, cond, subst}
use Rattle.maps.specs.Maps.{lookup}
use Rattle.maps.proofs.Copied.{copied_equal}
use Rattle.maps.proofs.Lookup.{alike_turned}
use Rattle.maps.proofs.entries.Entries.alter.Goals as goal

pub returns-in_ok-remove-in-None-clause-altered : goal.returns-in_ok-remove-in-None-clause-altered
returns-in_ok-remove-in-None-clause-altered g c =
    let cmp = g.K.Ord.cmp in
    let key = c.args.key in
    let old = c.args.self.now in
    let before = c.in_ok-before.before in
    let seen : before ≡ lookup cmp key old =
    copied_equal g.V.Clone.is_clone c.requires.copies_of_values c.get.result before c.in_ok-before.ensures
    ∙ c.get.ensures.found in
    let removed = c.in_ok-remove-in-None.ensures in
    record {
      answer = _;
      called = subst (λ value. g.F.FnOnce.post c.args.change (value, tt) None) seen c.in-None.ensures;
      entries = removed.entries;
      changes = λ k. removed.changes k
          ∙ ap (λ same. cond same None (lookup cmp k old)) (alike_turned cmp g.met.K.Ord.total key k);
    }

pub returns-in_ok-insert-in-Some-clause-altered : goal.returns-in_ok-insert-in-Some-clause-altered
returns-in_ok-insert-in-Some-clause-altered g c =
    let before = c.in_ok-before.before in
    let seen : before ≡ lookup g.K.Ord.cmp c.args.key c.args.self.now =
    copied_equal g.V.Clone.is_clone c.requires.copies_of_values c.get.result before c.in_ok-before.ensures
    ∙ c.get.ensures.found in
    let put = c.in_ok-insert-in-Some.ensures in
    record {
      answer = _;
      called = subst (λ value. g.F.FnOnce.post c.args.change (value, tt) (Some c.in-Some.value)) seen c.in-Some.ensures;
      entries = put.entries;
      changes = put.changes;
    }
