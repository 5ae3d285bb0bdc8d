-- The effect of a closure on the value at the end of a path.
use Rattle.std.specs.Prelude.{◌≡◌, ℕ, List, Some}
use Rattle.std.specs.Borrow.{MutBor}
use Rattle.std.specs.Fn.{Once, FnOnceReturnsAtMut}
use Rattle.std.specs.Option.{option_map}
use Rattle.rose_undo.specs.declared.rose.Rose.{Rose}
use Rattle.rose_undo.specs.Roses.{at, root, with_value}

module _ {F V R : Type 0} (g : Once F (MutBor V × Unit {0}) (R × (MutBor V × Unit {0}))) (change : F) where
  -- its call on the value at the end of the path returned r, and the tree has there the value that the call left
  pub record ChangesValue (path : List ℕ) (old new : Rose V) (r : R) : Type 0 where
    pub before : V
    pub after : V
    pub found : option_map root (at path old) ≡ Some before
    pub called : FnOnceReturnsAtMut g change before r after
    pub made : Some new ≡ with_value path after old
