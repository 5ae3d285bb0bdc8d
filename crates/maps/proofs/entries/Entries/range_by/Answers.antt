use Rattle.std.proofs.Common.{◌≡◌, ◌∙◌, ap, ap₂, sym}
use Rattle.std.specs.Prelude.{slice_range}
use Rattle.std.specs.Map.Iter.{deref}
use Rattle.std.specs.Range.Bound.{bound_map}
use Rattle.std_collections.proofs.IterRuns.{shows_in_order, shows_values_in_order}
use Rattle.std.specs.declared.ops.Bound.{Bound}
use Rattle.maps.specs.Bounds.{before_start, up_to_end}
use Rattle.maps.proofs.entries.Entries.range_by.Goals as goal
use Rattle.maps.proofs.entries.Entries.range_by.Goals.{in-Included, in-Excluded, in-Unbounded}
use Rattle.maps.proofs.entries.Entries.range_by.Goals.{in-Included-end, in-Excluded-end, in-Unbounded-end}

pub returns-clause-entries : goal.returns-clause-entries
returns-clause-entries g c =
    let es = c.args.self.now in
    let order = g.Q.Query.order in
    let before = λ (bound : Bound g.row.Q.Denot). before_start (bound_map order bound) es in
    let up_to = λ (bound : Bound g.row.Q.Denot). up_to_end (bound_map order bound) es in
    let from : c.match-start.from ≡ before_start (bound_map order c.args.start) es =
    elim c.match-start.branch [
      | in-Included w ↦ w.from-is ∙ w.rank-from.ensures.rank ∙ sym (ap before w.in-Included.is)
      | in-Excluded w ↦ w.from-is ∙ w.rank_with-from.ensures.rank ∙ sym (ap before w.in-Excluded.is)
      | in-Unbounded w ↦ w.from-is ∙ sym (ap before w.in-Unbounded.is)
    ] in
    let to : c.match-end.to ≡ up_to_end (bound_map order c.args.end) es =
    elim c.match-end.branch [
      | in-Included-end w ↦ w.to-is ∙ w.rank_with-to.ensures.rank ∙ sym (ap up_to w.in-Included-end.is)
      | in-Excluded-end w ↦ w.to-is ∙ w.rank-to.ensures.rank ∙ sym (ap up_to w.in-Excluded-end.is)
      | in-Unbounded-end w ↦ w.to-is ∙ w.len-to.ensures.count ∙ sym (ap up_to w.in-Unbounded-end.is)
    ] in
    c.range.ensures.items tt ∙ ap (λ es. slice_range es c.match-start.from c.match-end.to) c.self.view_is
    ∙ ap₂ (slice_range es) from to

pub returns-clause-runs : goal.returns-clause-runs
returns-clause-runs g c = shows_in_order deref

pub returns-clause-runs_of_values : goal.returns-clause-runs_of_values
returns-clause-runs_of_values g c = shows_values_in_order deref
