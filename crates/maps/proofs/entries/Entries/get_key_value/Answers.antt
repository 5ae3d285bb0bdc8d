use Rattle.std.proofs.Common.{◌+◌, ◌∙◌, ap, option_map, refl, subst, sym}
use Rattle.std.specs.List.{IsAmong}
use Rattle.std.specs.Map.{values_of}
use Rattle.std.specs.Prelude.{not}
use Rattle.std.specs.Option.{option_copied}
use Rattle.std.specs.Ordering.{is_eq, is_lt}
use Rattle.maps.specs.Maps.{entry_by}
use Rattle.maps.proofs.Cuts.{cut_found, cut_missing, cut_none, has_cut}
use Rattle.maps.proofs.Members.{among_values}
use Rattle.maps.proofs.Under.{found_missing, found_there, value_is}
use Rattle.maps.proofs.entries.Entries.get_key_value.Goals as goal

pub last_before-requires : goal.last_before-requires
last_before-requires g c =
    has_cut g.K.Ord.cmp (g.Q.Query.order c.args.key) (g.met.Q.Query.is_form c.args.key) (λ o. not (is_lt o)) refl
    refl c.self.inside.entries c.self.invariant

pub returns-in_err-entry-clause-found : goal.returns-in_err-entry-clause-found
returns-in_err-entry-clause-found g c =
    let order = g.Q.Query.order c.args.key in
    let es = c.self.inside.entries in
    ap (λ r. option_copied r) c.from_residual.ensures
    ∙ sym (found_missing order es 0 (cut_none order es c.in_err-entry.ensures.none) (λ e. e))
    ∙ ap (entry_by order) c.self.view_is

pub returns-in_err-entry-clause-value : goal.returns-in_err-entry-clause-value
returns-in_err-entry-clause-value g c =
    ap (option_map (λ e. e.1)) (returns-in_err-entry-clause-found g c)
    ∙ sym (value_is (g.Q.Query.order c.args.key) c.args.self.now)

pub returns-then-is_eq-clause-found : goal.returns-then-is_eq-clause-found
returns-then-is_eq-clause-found g c =
    let order = g.Q.Query.order c.args.key in
    let es = c.self.inside.entries in
    let last = c.in_ok-entry.ensures.some in
    let e = c.in_ok-entry.entry.now in
    let found = cut_found g.K.Ord.cmp order (g.met.Q.Query.is_form c.args.key) g.met.K.Ord.total es c.self.invariant
    last.at e last.is last.item (ap is_eq (sym c.order.ensures) ∙ sym c.is_eq.ensures ∙ c.if-is_eq.true) in
    sym last.item ∙ found.is ∙ sym (found_there order es last.at found (λ x. x)) ∙ ap (entry_by order) c.self.view_is

pub returns-then-is_eq-clause-value : goal.returns-then-is_eq-clause-value
returns-then-is_eq-clause-value g c =
    ap (option_map (λ e. e.1)) (returns-then-is_eq-clause-found g c)
    ∙ sym (value_is (g.Q.Query.order c.args.key) c.args.self.now)

pub returns-else-is_eq-clause-found : goal.returns-else-is_eq-clause-found
returns-else-is_eq-clause-found g c =
    let order = g.Q.Query.order c.args.key in
    let es = c.self.inside.entries in
    let last = c.in_ok-entry.ensures.some in
    let missing = cut_missing g.K.Ord.cmp order (g.met.Q.Query.is_form c.args.key) g.met.K.Ord.total es
    c.self.invariant last.at c.in_ok-entry.entry.now last.is last.item
    (ap is_eq (sym c.order.ensures) ∙ sym c.is_eq.ensures ∙ c.if-is_eq.false) in
    sym (found_missing order es (last.at + 1) missing (λ e. e)) ∙ ap (entry_by order) c.self.view_is

pub returns-else-is_eq-clause-value : goal.returns-else-is_eq-clause-value
returns-else-is_eq-clause-value g c =
    ap (option_map (λ e. e.1)) (returns-else-is_eq-clause-found g c)
    ∙ sym (value_is (g.Q.Query.order c.args.key) c.args.self.now)

pub returns-then-is_eq-clause-member : goal.returns-then-is_eq-clause-member
returns-then-is_eq-clause-member g c =
    let last = c.in_ok-entry.ensures.some in
    subst (λ es. IsAmong (values_of es) c.in_ok-entry.entry.now.1) c.self.view_is
    (among_values c.self.inside.entries last.at c.in_ok-entry.entry.now last.item)
