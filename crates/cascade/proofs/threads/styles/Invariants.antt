use Rattle.std.proofs.Common.{◌≡◌, take, map}
use Rattle.cascade.specs.Cascade.{style_of}
use Rattle.cascade.proofs.threads.styles.Given as goal

-- the elements so far have their styles
abbrev pub invariant-loop-element : goal.invariant-loop-element
invariant-loop-element l = l.styles.items ≡ map style_of (take l.element-index l.elements)
