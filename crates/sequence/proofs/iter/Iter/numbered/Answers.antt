use Rattle.std.proofs.Common.{◌<◌, arith, length, refl}
use Rattle.std.specs.Prelude.{IsSome, None, Some}
use Rattle.std.specs.Option.{option_copied}
use Rattle.sequence.specs.Nodes.{items_under}
use Rattle.sequence.proofs.iter.Iter.numbered.Goals as goal

pub unwrap-tree-requires : goal.unwrap-tree-requires
unwrap-tree-requires g c =
    elim c.args.tree as (λ tree. c.args.index < length (items_under (option_copied tree)) → IsSome tree) [
      | None ↦ λ there. absurd (omega (arith, there))
      | Some tree ↦ λ _. refl
    ] c.requires.there
