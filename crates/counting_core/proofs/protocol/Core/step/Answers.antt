use Rattle.counting_core.proofs.Names.{Continues, core_of, subst}
use Rattle.counting_core.proofs.Steps.Continues.{continues, reaches}
use Rattle.counting_core.proofs.protocol.Core.step.Goals as goal

pub invariant_of-self : goal.invariant_of-self
invariant_of-self g c = reaches _ _ _ _ c.step.ensures c.self.invariant

pub returns-clause-continues : goal.returns-clause-continues
returns-clause-continues g c =
    subst (λ f. Continues f c.args.step c.step.result (core_of c.step.new.self)) c.self.view_is
    (continues _ _ _ _ c.step.ensures)
