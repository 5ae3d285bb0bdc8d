-- What the list put in where the key is sought.
use Rattle.std.proofs.Common.{refl, subst}
use Rattle.std.specs.Prelude.{not}
use Rattle.std.specs.Ordering.{is_lt}
use Rattle.maps.specs.Queries.{key_form}
use Rattle.maps.proofs.Cuts.{has_cut}
use Rattle.maps.proofs.Sought.{IsPut, put}
use Rattle.maps.proofs.entries.Entries.insert.Given as given
use Rattle.maps.proofs.entries.Entries.insert.Goals as goal
use Rattle.maps.proofs.entries.Entries.insert.Goals.{After-put_in}

pub put_in-requires-clause-cut : goal.put_in-requires-clause-cut
put_in-requires-clause-cut g c =
    let cmp = g.K.Ord.cmp in
    has_cut cmp (cmp c.args.key) (key_form g.met.K.Ord.total c.args.key) (λ o. not (is_lt o)) refl refl
    c.self.inside.entries c.self.invariant

done : (g : given.Over) (c : After-put_in g)
    → IsPut g.K.Ord.cmp c.args.key c.args.value c.args.self.now c.put_in.new.self c.put_in.result
done g c =
    let cmp = g.K.Ord.cmp in
    let es = c.self.inside.entries in
    let new = c.put_in.new.self in
    subst (λ es. IsPut cmp c.args.key c.args.value es new c.put_in.result) c.self.view_is
    (put cmp c.args.key c.args.value es new g.met.K.Ord.total c.self.invariant c.put_in.result
    c.put_in.ensures.replaced c.put_in.ensures.added c.put_in.ensures.refused)

pub invariant_of-self : goal.invariant_of-self
invariant_of-self g c = (done g c).rising

pub returns-clause-value : goal.returns-clause-value
returns-clause-value g c = (done g c).value

pub returns-clause-entries : goal.returns-clause-entries
returns-clause-entries g c = (done g c).entries

pub returns-clause-changes : goal.returns-clause-changes
returns-clause-changes g c = (done g c).changes
