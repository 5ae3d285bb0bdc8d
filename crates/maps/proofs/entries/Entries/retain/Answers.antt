-- The list keeps what the closure says, which asks the test.
use Rattle.std.proofs.Common.{subst}
use Rattle.std.specs.List.Retain.{IsFiltered}
use Rattle.std.proofs.lemmas.Result.{on_ok_weaker}
use Rattle.maps.specs.Changes.{AskedOf}
use Rattle.maps.proofs.Kept.{callable_asking, filtered_asking, rising_retained}
use Rattle.maps.proofs.entries.Entries.retain.Goals as goal

pub retain-requires-clause-callable : goal.retain-requires-clause-callable
retain-requires-clause-callable g c =
    callable_asking _ g.F.FnMut (λ s. s.0.now) (λ s a b t call. call.met.1) _ (λ s a may. may) c.requires.callable

pub invariant_of-self : goal.invariant_of-self
invariant_of-self g c =
    rising_retained g.K.Ord.cmp _ _ c.self.inside.entries c.retain.new.self c.retain.result c.retain.ensures.kept
    c.retain.ensures.refused c.self.invariant

pub returns-clause-kept : goal.returns-clause-kept
returns-clause-kept g c =
    let new = c.retain.new.self in
    on_ok_weaker c.retain.result
    (λ is. subst (λ es. IsFiltered (AskedOf g.F.FnMut) c.args.keep es new) c.self.view_is
    (filtered_asking _ g.F.FnMut (λ s. s.0.now) (λ s a b t call. call.met.1) _ c.self.inside.entries new is))
    c.retain.ensures.kept
