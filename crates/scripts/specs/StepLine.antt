-- How the steps of a core are written as lines: each by a word and its numbers.
use Rattle.std.specs.Prelude.{ℕ, List, [], ◌∷◌, codes}
use Rattle.counting_core.specs.declared.step.Step.{Step}
use Rattle.counting_core.specs.declared.step.Step.TheVariants.{Clone, Raise, Quit, Drop, Lower, Mark}
use Rattle.counting_core.specs.declared.step.Step.TheVariants.{Unique, Static, GetMut, Write, EndWrite, IntoUnique}
use Rattle.counting_core.specs.declared.step.Step.TheVariants.{Share, Load, Lend, Return, Give}

abbrev pub step_line : Step ℕ → List ℕ × List ℕ
step_line (Clone owner handle) = (codes "clone", owner ∷ handle ∷ [])
step_line (Raise owner) = (codes "raise", owner ∷ [])
step_line (Quit owner) = (codes "quit", owner ∷ [])
step_line (Drop owner handle) = (codes "drop", owner ∷ handle ∷ [])
step_line (Lower owner) = (codes "lower", owner ∷ [])
step_line (Mark owner handle) = (codes "mark", owner ∷ handle ∷ [])
step_line (Unique owner handle) = (codes "unique", owner ∷ handle ∷ [])
step_line (Static owner handle) = (codes "static", owner ∷ handle ∷ [])
step_line (GetMut owner handle) = (codes "getmut", owner ∷ handle ∷ [])
step_line (Write owner handle value) = (codes "write", owner ∷ handle ∷ value ∷ [])
step_line (EndWrite owner handle) = (codes "endwrite", owner ∷ handle ∷ [])
step_line (IntoUnique owner handle) = (codes "intounique", owner ∷ handle ∷ [])
step_line (Share owner handle) = (codes "share", owner ∷ handle ∷ [])
step_line (Load owner handle) = (codes "load", owner ∷ handle ∷ [])
step_line (Lend owner handle to) = (codes "lend", owner ∷ handle ∷ to ∷ [])
step_line (Return owner handle) = (codes "return", owner ∷ handle ∷ [])
step_line (Give owner handle to) = (codes "give", owner ∷ handle ∷ to ∷ [])
