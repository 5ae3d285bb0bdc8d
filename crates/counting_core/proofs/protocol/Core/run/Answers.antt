use Rattle.counting_core.proofs.Names.{rules}
use Rattle.counting_core.proofs.Steps.Running.{continues_all-more}
use Rattle.counting_core.proofs.protocol.Core.run.Goals as goal

pub loop-step-preserved : goal.loop-step-preserved
loop-step-preserved g c = record {
  ran =
      continues_all-more c.args.self.now c.loop-step.self c.step.new.self c.args.steps.now c.loop-step.step-index
      c.loop-step.answers.items
      c.push_reserved.new.self.items c.step-item.result c.step.result c.loop-step-test.true c.step-item.is
      c.loop-step.invariant.ran
      c.step.ensures.continues c.push_reserved.ensures.items;
  made = search rules;
  room = search rules;
}
