use Rattle.counting_core.proofs.Steps.Running.{opens}
use Rattle.counting_core.proofs.protocol.Core.new.Goals as goal

pub invariant_of-result : goal.invariant_of-result
invariant_of-result g c = (
  _,
  opens c.args.value c.args.owners c.args.limit c.requires.limit c.in-Ok.handles.items
      c.push_newborn.new.handles.items c.in-Ok-vec.owners.items c.in-Ok.ensures.items c.in-Some.ensures.born
      (c.in-Ok-vec.ensures.items_if_clones_equal (λ y e. e)),
)
