use Rattle.std.proofs.Common.{◌∙◌, ap, ap₂, drop, subst, sym, take}
use Rattle.maps.specs.Maps.{IsRising, rank_by}
use Rattle.maps.proofs.Rising.{rising_drop, rising_either, rising_take}
use Rattle.maps.proofs.map.TreeMap.split_off.Goals as goal

pub invariant_of-entries : goal.invariant_of-entries
invariant_of-entries g c =
    let cmp = g.K.Ord.cmp in
    let at = c.rank-at.result in
    let es = c.entries.inside.entries in
    rising_either cmp c.split_off.result c.split_off.new.self (take at es) es c.split_off.ensures.rest
    c.split_off.ensures.refused (rising_take cmp at es c.entries.invariant) c.entries.invariant

pub invariant_of-of : goal.invariant_of-of
invariant_of-of g c =
    let cmp = g.K.Ord.cmp in
    let at = c.rank-at.result in
    let es = c.entries.inside.entries in
    subst (IsRising cmp) (sym c.in-Ok.ensures.out) (rising_drop cmp at es c.entries.invariant)

pub returns-in-Ok-clause-out : goal.returns-in-Ok-clause-out
returns-in-Ok-clause-out g c =
    c.of.ensures ∙ c.in-Ok.ensures.out
    ∙ ap₂ (λ n es. drop n es) c.rank-at.ensures.rank c.entries.view_is
    ∙ ap (λ es. drop (rank_by (g.Q.Query.order c.args.key) es) es) c.deref_mut-entries.ensures.value

pub returns-in-Ok-clause-rest : goal.returns-in-Ok-clause-rest
returns-in-Ok-clause-rest g c =
    c.in-Ok.ensures.rest
    ∙ ap₂ (λ n es. take n es) c.rank-at.ensures.rank c.entries.view_is
    ∙ ap (λ es. take (rank_by (g.Q.Query.order c.args.key) es) es) c.deref_mut-entries.ensures.value
