use Rattle.counting_core.proofs.Names.{◌<◌, greatest_count, core_of, rules, arith}
use Rattle.counting_core.proofs.Traces.LiveCounts.{core_limit, core_within}
use Rattle.counting_core.proofs.Steps.Acting.{seen-few, raise_bears}
use Rattle.counting_core.proofs.acting.Machine.raise.Goals.{then-found-seen, else-found-seen+in-Static}
use Rattle.counting_core.proofs.acting.Machine.raise.Goals as goal

pub overflow_add-next : goal.overflow_add-next
overflow_add-next g c =
    let few : c.in-Some-Cloning.seen < greatest_count = seen-few (core_of c.args.self.now) c.requires c.args.owner
    c.in-Some-Cloning.handle c.in-Some-Cloning.seen (search rules) in
    omega (arith, c.if-found-seen.true)

pub plan_clone-requires-clause-limit : goal.plan_clone-requires-clause-limit
plan_clone-requires-clause-limit g c = core_limit _ c.requires.0 c.requires.1

pub plan_clone-requires-clause-within : goal.plan_clone-requires-clause-within
plan_clone-requires-clause-within g c = core_within _ c.requires.0 c.requires.1

pub returns : goal.returns
returns g c = raise_bears (core_of c.args.self.now) c.args.owner c.if-found-seen.next
    (elim c.if-found-seen.branch [
      | then-found-seen w ↦ rw w.next-is (search rules)
      | else-found-seen+in-Static w ↦ rw w.next-is (search rules)
    ])
    (search rules) c.in-Some.ensures.number c.in-Some.ensures.born
