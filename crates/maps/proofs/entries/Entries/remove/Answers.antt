-- What the list took out where the key is sought.
use Rattle.std.proofs.Common.{◌≡◌, ◌∙◌, ap, option_map, refl, subst, sym}
use Rattle.std.specs.Prelude.{not}
use Rattle.std.specs.Ordering.{is_lt}
use Rattle.maps.specs.Maps.{IsRising, lookup, lookup_by, without_by}
use Rattle.maps.proofs.Cuts.{has_cut}
use Rattle.maps.proofs.Lookup.{lookup_without}
use Rattle.maps.proofs.Rising.{rising_without}
use Rattle.maps.proofs.Sought.{has_value, taken}
use Rattle.maps.proofs.entries.Entries.remove.Given as given
use Rattle.maps.proofs.entries.Entries.remove.Goals as goal
use Rattle.maps.proofs.entries.Entries.remove.Goals.{In_ok-take_out, in-None, in-Some}

pub take_out-requires-clause-cut : goal.take_out-requires-clause-cut
take_out-requires-clause-cut g c =
    has_cut g.K.Ord.cmp (g.Q.Query.order c.args.key) (g.met.Q.Query.is_form c.args.key) (λ o. not (is_lt o)) refl
    refl c.self.inside.entries c.self.invariant

done : (g : given.Over) (c : In_ok-take_out g)
    → (option_map (λ e. e.1) c.in_ok-take_out.field-0
    ≡ lookup_by (g.Q.Query.order c.args.key) c.self.inside.entries)
    × (c.take_out.new.self ≡ without_by (g.Q.Query.order c.args.key) c.self.inside.entries)
done g c =
    taken g.K.Ord.cmp g.met.K.Ord.total c.self.inside.entries c.take_out.new.self c.self.invariant
    (g.Q.Query.order c.args.key) (g.met.Q.Query.is_form c.args.key) c.in_ok-take_out.field-0
    c.in_ok-take_out.ensures.taken c.in_ok-take_out.ensures.absent

-- what is left is the map without the entry
left : (g : given.Over) (c : In_ok-take_out g)
    → c.take_out.new.self ≡ without_by (g.Q.Query.order c.args.key) c.args.self.now
left g c = (done g c).1 ∙ ap (without_by (g.Q.Query.order c.args.key)) c.self.view_is

-- whose keys rose
rose : (g : given.Over) (c : In_ok-take_out g) → IsRising g.K.Ord.cmp c.args.self.now
rose g c = subst (IsRising g.K.Ord.cmp) c.self.view_is c.self.invariant

pub invariant_of-self-2 : goal.invariant_of-self-2
invariant_of-self-2 g c =
    let cmp = g.K.Ord.cmp in
    let at = (goal.at.invariant_of-self-2 g c).In_ok-take_out in
    subst (IsRising cmp) (sym (left g at))
    (rising_without cmp (g.Q.Query.order c.args.key) c.args.self.now (rose g at))

pub returns-in_err-take_out-clause-none : goal.returns-in_err-take_out-clause-none
returns-in_err-take_out-clause-none g c none =
    let order = g.Q.Query.order c.args.key in
    absurd (has_value g.K.Ord.cmp g.met.K.Ord.total c.self.inside.entries c.take_out.new.self c.self.invariant order
    (g.met.Q.Query.is_form c.args.key) c.in_err-take_out.ensures.there
    (ap (lookup_by order) c.self.view_is ∙ none))

pub returns-clause-value : goal.returns-clause-value
returns-clause-value g c =
    let at = (goal.at.returns-clause-value g c).In_ok-take_out in
    let value = option_map (λ (e : g.row.K.Denot × g.row.V.Denot). e.1) in
    let read : c.match-branch-2.value ≡ value c.in_ok-take_out.field-0 =
    elim c.match-branch-2.branch [
      | in-None w ↦ w.value-is ∙ sym (ap value w.in-None.is)
      | in-Some w ↦ w.value-is ∙ sym (ap value w.in-Some.is)
    ] in
    read ∙ (done g at).0 ∙ ap (lookup_by (g.Q.Query.order c.args.key)) c.self.view_is

pub returns-clause-entries : goal.returns-clause-entries
returns-clause-entries g c = left g (goal.at.returns-clause-entries g c).In_ok-take_out

pub returns-clause-changes : goal.returns-clause-changes
returns-clause-changes g c k =
    let cmp = g.K.Ord.cmp in
    let at = (goal.at.returns-clause-changes g c).In_ok-take_out in
    ap (lookup cmp k) (left g at)
    ∙ lookup_without cmp g.met.K.Ord.total (g.Q.Query.order c.args.key) (g.met.Q.Query.is_form c.args.key) k
    c.args.self.now (rose g at)
