use Rattle.std.proofs.Common.{◌∙◌, ap, ap₂}
use Rattle.std.specs.Range.Bound.{bound_map}
use Rattle.maps.specs.Bounds.{entries_between}
use Rattle.maps.proofs.Ranges.{bound_twice}
use Rattle.maps.proofs.entries.Entries.range.Goals as goal

pub returns-clause-entries : goal.returns-clause-entries
returns-clause-entries g c has =
    let cmp = g.K.Ord.cmp in
    c.range_by.ensures.entries
    ∙ ap₂ (λ start end. entries_between start end c.args.self.now)
    (bound_twice (λ key. key.now) cmp c.start_bound.result ∙ ap (bound_map cmp) (c.start_bound.ensures has))
    (bound_twice (λ key. key.now) cmp c.end_bound.result ∙ ap (bound_map cmp) (c.end_bound.ensures has))
