use Rattle.std.proofs.Common.{◌≡◌}
use Rattle.std.specs.List.{flat_map, fold}
use Rattle.sequence.proofs.compare.LabelledSequenceHash.hash.Given as goal

-- what is left feeds what all items feed
abbrev pub invariant-loop-item : goal.invariant-loop-item
invariant-loop-item g l =
    fold g.H.Hasher.write l.state (flat_map g.T.Hash.hash_input l.item-iterator)
    ≡ fold g.H.Hasher.write l.initial.state (flat_map g.T.Hash.hash_input l.self)
