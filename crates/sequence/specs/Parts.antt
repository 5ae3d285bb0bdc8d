-- A part of a list, by its first index, and an item with those behind it.
use Rattle.std.specs.Prelude.{◌≡◌, ℕ, ◌+◌, ◌<◌, List, [], ◌∷◌, Option, None, Some, length, slice_get}
use Rattle.std.specs.Borrow.{Bor}

-- the first are those of the second from that number on
pub record IsPart {E : Type 0} (part : List E) (start : ℕ) (all : List E) : Type 0 where
  pub at : (k : ℕ) → k < length part → slice_get part k ≡ slice_get all (start + k)

-- a front item and those behind it
abbrev pub left : {T : Type 0} → Option (Bor T) → List T → List T
left None rest = []
left (Some first) rest = first.now ∷ rest
