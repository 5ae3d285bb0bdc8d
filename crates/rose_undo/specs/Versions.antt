-- A value with its versions: those before it, the last of them last, and those that were undone, the next of them last.
use Rattle.std.specs.Prelude.{◌≡◌, List, [], ◌∷◌, ◌++◌}

pub record Versions (T : Type 0) : Type 0 where
  pub before : List T
  pub current : T
  pub undone : List T

-- new is old after an undo, and old is new after a redo
abbrev pub IsUndone : {T : Type 0} → Versions T → Versions T → Type 0
IsUndone old new =
    (old.before ≡ new.before ++ new.current ∷ []) × (new.undone ≡ old.undone ++ old.current ∷ [])
