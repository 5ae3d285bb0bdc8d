-- The list changes the entry that is sought by a call on its value.
use Rattle.std.proofs.Common.{◌∙◌, ap, refl, rules, subst, sym}
use Rattle.std.specs.Prelude.{not}
use Rattle.std.specs.Ordering.{is_lt}
use Rattle.maps.specs.Maps.{lookup}
use Rattle.maps.specs.Queries.{key_form}
use Rattle.maps.proofs.Changed.{IsModified, modified, value_found}
use Rattle.maps.proofs.Cuts.{has_cut}
use Rattle.maps.proofs.entries.Entries.modify.Goals as goal
use Rattle.maps.proofs.entries.Entries.modify.Goals.{After-change}
use Rattle.maps.proofs.entries.Entries.modify.Given as given

pub change-requires-clause-cut : goal.change-requires-clause-cut
change-requires-clause-cut g c =
    let cmp = g.K.Ord.cmp in
    has_cut cmp (cmp c.args.key.now) (key_form g.met.K.Ord.total c.args.key.now) (λ o. not (is_lt o)) refl refl
    c.self.inside.entries c.self.invariant

pub change-requires-clause-callable : goal.change-requires-clause-callable
change-requires-clause-callable g c at there p now q value =
    let cmp = g.K.Ord.cmp in
    let es = c.self.inside.entries in
    let key = c.args.key.now in
    c.requires.callable there.item.1
    (ap (lookup cmp key) (sym c.self.view_is)
    ∙ value_found cmp g.met.K.Ord.total key es es c.self.invariant at there) q
    (value ∙ ap (λ e. e.1) now)

-- what the list made of the value
done : (g : given.Over) (c : After-change g)
    → IsModified g.K.Ord.cmp c.args.key.now c.args.self.now c.change.new.self g.F.FnOnce c.args.change c.change.result
done g c =
    let cmp = g.K.Ord.cmp in
    let es = c.self.inside.entries in
    let key = c.args.key.now in
    let change = c.change.ensures in
    subst (λ es. IsModified cmp key es c.change.new.self g.F.FnOnce c.args.change c.change.result) c.self.view_is
    (modified cmp g.met.K.Ord.total key es c.change.new.self c.self.invariant _ _ g.F.FnOnce c.args.change
    (λ before after a called. search rules) c.change.result change.absent change.changed change.there change.refused)

pub invariant_of-self : goal.invariant_of-self
invariant_of-self g c = (done g c).rising

pub returns-clause-absent : goal.returns-clause-absent
returns-clause-absent g c = (done g c).absent

pub returns-clause-changed : goal.returns-clause-changed
returns-clause-changed g c = (done g c).changed

pub returns-clause-none : goal.returns-clause-none
returns-clause-none g c = (done g c).none
