-- How the lines of a table's script are written: each by a word and its numbers.
use Rattle.std.specs.Prelude.{ℕ, List, [], ◌∷◌, codes}
use Rattle.commands.specs.declared.Command.TheVariants.{New, Clone, Drop, GetMut, IntoUnique, MakeMut}
use Rattle.commands.specs.declared.Command.TheVariants.{Own, Mark, Raw, PtrEq, Same}
use Rattle.scripts.specs.declared.table_line.TableLine.{TableLine}
use Rattle.scripts.specs.declared.table_line.TableLine.TheVariants.{Serve, Get}

abbrev pub table_line : TableLine → List ℕ × List ℕ
table_line (Serve (New slot value)) = (codes "new", slot ∷ value ∷ [])
table_line (Serve (Clone slot other)) = (codes "clone", slot ∷ other ∷ [])
table_line (Serve (Drop slot)) = (codes "drop", slot ∷ [])
table_line (Serve (GetMut slot value)) = (codes "getmut", slot ∷ value ∷ [])
table_line (Serve (IntoUnique slot value)) = (codes "intounique", slot ∷ value ∷ [])
table_line (Serve (MakeMut slot value)) = (codes "makemut", slot ∷ value ∷ [])
table_line (Serve (Own slot)) = (codes "own", slot ∷ [])
table_line (Serve (Mark slot)) = (codes "mark", slot ∷ [])
table_line (Serve (Raw slot)) = (codes "raw", slot ∷ [])
table_line (Serve (PtrEq slot other)) = (codes "ptreq", slot ∷ other ∷ [])
table_line (Serve (Same slot other)) = (codes "same", slot ∷ other ∷ [])
table_line (Get slot) = (codes "get", slot ∷ [])
