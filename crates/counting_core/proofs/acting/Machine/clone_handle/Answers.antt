use Rattle.counting_core.proofs.Names.{sym, ◌∙◌, core_of}
use Rattle.counting_core.proofs.Traces.LiveCounts.{core_limit, core_within}
use Rattle.counting_core.proofs.Steps.Acting.{clone_bears}
use Rattle.counting_core.proofs.acting.Machine.clone_handle.Goals as goal

pub plan_clone-requires-clause-limit : goal.plan_clone-requires-clause-limit
plan_clone-requires-clause-limit g c = core_limit _ c.requires.reached.0 c.requires.reached.1

pub plan_clone-requires-clause-within : goal.plan_clone-requires-clause-within
plan_clone-requires-clause-within g c = core_within _ c.requires.reached.0 c.requires.reached.1

pub returns-in-Some : goal.returns-in-Some
returns-in-Some g c =
    clone_bears (core_of c.args.self.now) c.args.owner c.args.handle (sym c.plan_clone.ensures ∙ c.in-Static.is)
    c.requires.allowed c.in-Some.ensures.number c.in-Some.ensures.born
