-- The result of a call that clones a value, and what may be required of clones.
use Rattle.std.specs.Prelude.{◌≡◌, ◌⊎◌}

-- a copy is the same value, and not only one that `==` accepts
abbrev pub CopiesAreEqual : {V : Type 0} → (V → V → Type 0) → Type 0
CopiesAreEqual {V} is_clone = (x y : V) → is_clone x y → y ≡ x

-- y is x itself or a copy of it
abbrev pub SameOrCopy : {V : Type 0} → (V → V → Type 0) → V → V → Type 0
SameOrCopy is_clone x y = (y ≡ x) ⊎ is_clone x y
