use Rattle.std.proofs.Common.{rules}
use Rattle.std.proofs.lemmas.List.Sorted.{IsNonDecreasingBy-from_sort_by_key, answers_always}
use Rattle.std.specs.List.Sorted.{IsNonDecreasingBy, IsStableByKey}
use Rattle.std.specs.Ordering.{nat_cmp}
use Rattle.servo_arc.specs.declared.Arc.{Arc}
use Rattle.cascade.specs.declared.source.Rule.{Rule}
use Rattle.cascade.proofs.element.Element.of_rules.Goals as goal

pub invariant_of-result : goal.invariant_of-result
invariant_of-result c =
    let sorted : IsNonDecreasingBy (λ (r : Arc Rule). r.specificity) c.sort_by_key.new.self.items =
    IsNonDecreasingBy-from_sort_by_key (λ (r : Arc Rule). r.specificity) c.sort_by_key.new.self.items
    c.in_ok-sort_by_key.ensures.sorted (λ a r q k. search rules) in
    record { sorted = rw c.in_ok-from_header_and_vec.ensures sorted }

pub returns-clause-stable : goal.returns-clause-stable
returns-clause-stable c =
    let sorted = c.sort_by_key.new.self.items in
    let stable : IsStableByKey (λ (r : Arc Rule). r.specificity) nat_cmp c.args.rules.items sorted =
    c.in_ok-sort_by_key.ensures.stable (λ (r : Arc Rule). r.specificity)
    (answers_always _ _ _ (λ f a r q k. search rules)) in
    rw c.in_ok-from_header_and_vec.ensures stable
