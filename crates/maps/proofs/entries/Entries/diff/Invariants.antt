use Rattle.std.proofs.Common.{◌+◌, length}
use Rattle.maps.proofs.Differences.{AreFound}
use Rattle.maps.proofs.entries.Entries.diff.Given as goal

-- what was found and what differs in what is left are all differences
abbrev pub invariant-loop-order : goal.invariant-loop-order
invariant-loop-order g l = AreFound g.K.Ord.cmp g.V.PartialEq.eq l.self l.newer l.changes.items l.olds l.news

abbrev pub decreases-loop-order : goal.decreases-loop-order
decreases-loop-order g l = length l.olds + length l.news
