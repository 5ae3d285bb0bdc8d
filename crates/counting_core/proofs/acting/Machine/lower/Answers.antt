use Rattle.counting_core.proofs.Names.{true, false, sym, ◌∙◌, core_of, rules}
use Rattle.counting_core.proofs.Steps.Acting.{lower_some, lower_born, lowers}
use Rattle.counting_core.proofs.acting.Machine.lower.Goals as goal

pub overflow_sub-self : goal.overflow_sub-self
overflow_sub-self g c = lower_some (core_of c.args.self.now) c.requires c.args.owner c.in-Some-Dropping.handle
    (search rules) (search rules)

pub index_mut-requires-2 : goal.index_mut-requires-2
index_mut-requires-2 g c = lower_born (core_of c.args.self.now) c.requires c.args.owner c.in-Some-Dropping.handle
    (search rules) c.args.self.now.handles.ok.0

pub returns-then-is_last : goal.returns-then-is_last
returns-then-is_last g c =
    lowers (core_of c.args.self.now) c.requires c.args.owner c.in-Some-Dropping.handle (search rules) _ _
    c.index_mut-2.ensures.value c.end.ensures (search rules) true (sym c.is_last.ensures ∙ c.if-is_last.true)

pub returns-else-is_last : goal.returns-else-is_last
returns-else-is_last g c =
    lowers (core_of c.args.self.now) c.requires c.args.owner c.in-Some-Dropping.handle (search rules) _ _
    c.index_mut-2.ensures.value c.end.ensures (search rules) false (sym c.is_last.ensures ∙ c.if-is_last.false)
