use Rattle.handles.specs.Attempts.{IsSeen}
use Rattle.handles.specs.Founds.{LostRaise}
use Rattle.handles.proofs.block.handle.Handle.raise_again.Given as goal

-- the permit is that of a raise that was lost
abbrev pub invariant-loop-permit : goal.invariant-loop-permit
invariant-loop-permit g l = IsSeen l.self l.word l.permit × LostRaise l.self.held.limit.count l.self.number l.permit.log
