use Rattle.std.proofs.Common.{◌+◌, ◌<◌, ◌^◌, length}
use Rattle.sequence.specs.Nodes.{IsNode, seen}
use Rattle.sequence.proofs.Cuts.{Holds}
use Rattle.sequence.proofs.labelled.LabelledSequence.find.Given as goal

-- the node has the cut, or it is before all
abbrev pub invariant-down : goal.invariant-down
invariant-down g l = record {
  holds : Holds (g.C.Cut.is_before l.cut) (seen l.node).0 l.start l.self;
  room : l.start + length (seen l.node).0 < 2 ^ 64;
  whole : IsNode g.L.Label.label_of l.node;
}

abbrev pub decreases-down : goal.decreases-down
decreases-down g l = (seen l.node).1
