use Rattle.std.specs.Fn.{CalledAt}
use Rattle.sequence.proofs.Lists.Kept.{AreKept}
use Rattle.sequence.proofs.labelled.LabelledSequence.kept.Given as goal

-- the copies so far, and what is kept of the rest, are what is kept of all
abbrev pub invariant-loop-item : goal.invariant-loop-item
invariant-loop-item g l =
    goal.F-IsAlwaysCallable g l.keep
    × AreKept (CalledAt g.F.FnMut) l.fn.keep l.fn.self l.keep l.item-iterator l.items.items
