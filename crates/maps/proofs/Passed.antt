-- What one call of an iterator leaves.
use Rattle.std.proofs.Common.{◌≡◌, ◌∙◌, List, [], ap, drop}
use Rattle.std.specs.Prelude.{Option, None, Some, IfNone}
use Rattle.std.specs.Borrow.{Bor}
use Rattle.sequence.specs.Parts.{left}
use Rattle.sequence.proofs.Pairs.{left_next, steps}

-- a call drops the front item
pub left_passed : {X : Type 0} (first next : Option (Bor X)) (rest more all : List X) → IfNone first (rest ≡ [])
    → left first rest ≡ all → steps rest next more → left next more ≡ drop 1 all
left_passed None next rest more all none is h = left_next next rest more h ∙ none ∙ ap (drop 1) is
left_passed (Some first) next rest more all none is h = left_next next rest more h ∙ ap (drop 1) is
