-- The effect of a closure that `modify`, `alter` or `retain` calls on a map.
use Rattle.std.specs.Prelude.{◌≡◌, Bool, List, Option, Some, cond}
use Rattle.std.specs.Borrow.{Bor, MutBor}
use Rattle.std.specs.Fn.{Called, Mut, Once, FnOnceReturnsAtMut}
use Rattle.std.specs.declared.cmp.Ordering.{Ordering}
use Rattle.std.specs.Ordering.{is_eq}
use Rattle.maps.specs.Maps.{lookup, with_answer, with_entry}

module _ {F K V R : Type 0} (g : Once F (MutBor V × Unit {0}) (R × (MutBor V × Unit {0}))) (change : F) where
  -- its call on the value under the key returned r, and the map has there the value that the call left
  pub record ChangesValue (cmp : K → K → Ordering) (key : K) (old new : List (K × V)) (r : R) : Type 0 where
    pub before : V
    pub after : V
    pub found : lookup cmp key old ≡ Some before
    pub called : FnOnceReturnsAtMut g change before r after
    pub entries : new ≡ with_entry cmp key after old
    pub changes : (k : K) → lookup cmp k new ≡ cond (is_eq (cmp k key)) (Some after) (lookup cmp k old)

-- a call on the old value, or on None, returned the new value, or None
pub record Alters {K V : Type 0} (calls : Option V → Option V → Type 0) (cmp : K → K → Ordering) (key : K)
    (old new : List (K × V)) : Type 0 where
  pub answer : Option V
  pub called : calls (lookup cmp key old) answer
  pub entries : new ≡ with_answer cmp key answer old
  pub changes : (k : K) → lookup cmp k new ≡ cond (is_eq (cmp k key)) answer (lookup cmp k old)

-- a call at references to the key and to the value of an entry gave that answer, and left the closure as the second
pub record AskedOf {F K V : Type 0} (g : Mut F (Bor K × (Bor V × Unit {0})) Bool) (f : F) (e : K × V) (answer : Bool)
    (left : F) : Type 0 where
  pub key : Bor K
  pub value : Bor V
  pub shows : (key.now ≡ e.0) × (value.now ≡ e.1)
  pub called : Called g f (key, (value, tt)) answer left
