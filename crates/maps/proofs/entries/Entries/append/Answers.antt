-- The clone of one more entry is put in, and the rest is still to come.
use Rattle.std.proofs.Common.{◌≡◌, ◌∙◌, ap, ap₂, sym}
use Rattle.maps.specs.Maps.{with_entries, with_entry}
use Rattle.maps.proofs.Copied.{pairs_equal}
use Rattle.maps.proofs.entries.Entries.append.Given as given
use Rattle.maps.proofs.entries.Entries.append.Goals as goal
use Rattle.maps.proofs.entries.Entries.append.Goals.{In_ok-insert}

pub loop-entry-init : goal.loop-entry-init
loop-entry-init g c =
    ap₂ (with_entries g.K.Ord.cmp) c.into_iter-entry-iterator.ensures.into_iter_gives c.in_ok-both.ensures

put : (g : given.Over) (c : In_ok-insert g) → with_entries g.K.Ord.cmp c.next.new.self c.insert.new.self
    ≡ with_entries g.K.Ord.cmp c.args.other.now c.args.self.now
put g c =
    let cmp = g.K.Ord.cmp in
    let both = c.loop-entry.both in
    let cases = c.in_ok-key.ensures.cases in
    ap (with_entries cmp c.next.new.self) (c.in_ok-insert.ensures.entries ∙ ap (λ e. with_entry cmp e.0 e.1 both)
    (pairs_equal g.K.Clone.is_clone g.V.Clone.is_clone c.requires.copies_of_keys c.requires.copies_of_values
    c.in-Some.entry.now (c.in_ok-key.key, c.in_ok-key.value) cases.0 cases.1))
    ∙ ap (λ es. with_entries cmp es both) (sym c.in-Some.ensures.steps) ∙ c.loop-entry.invariant

pub loop-entry-preserved-in_ok-insert : goal.loop-entry-preserved-in_ok-insert
loop-entry-preserved-in_ok-insert g c = put g (goal.at.loop-entry-preserved-in_ok-insert g c).In_ok-insert

pub loop-entry-preserved : goal.loop-entry-preserved
loop-entry-preserved g c = put g (goal.at.loop-entry-preserved g c).In_ok-insert

pub returns-clause-entries : goal.returns-clause-entries
returns-clause-entries g c =
    ap (λ es. with_entries g.K.Ord.cmp es c.loop-entry.both) (sym c.in-None.ensures.steps.0) ∙ c.loop-entry.invariant
