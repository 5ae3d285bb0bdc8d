use Rattle.std.proofs.Common.{◌≡◌, take, map}
use Rattle.cascade.specs.Cascade.{style_of}
use Rattle.uses.proofs.documents.styles.Given as goal

-- the parts so far have their styles
abbrev pub invariant-loop-part : goal.invariant-loop-part
invariant-loop-part l = l.styles.items ≡ map (λ part. style_of part.now.element) (take l.part-index l.parts)
