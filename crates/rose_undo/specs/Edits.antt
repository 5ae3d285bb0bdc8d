-- The tree that an edit makes of the one at the end of its path.
use Rattle.std.specs.Prelude.{Option, Some}
use Rattle.rose_undo.specs.declared.rose.Rose.{Rose}
use Rattle.rose_undo.specs.declared.rose.edit.Edit.{Edit}
use Rattle.rose_undo.specs.declared.rose.edit.Edit.TheVariants.{Value, Tree, Insert, Remove}
use Rattle.rose_undo.specs.Roses.{inserted, removed, valued}

abbrev pub made : {V : Type 0} → Edit V → Rose V → Option (Rose V)
made (Value v) = valued v
made (Tree new) = λ _. Some new
made (Insert i child) = inserted i child
made (Remove i) = removed i
