-- The value of a union in contracts: a value of one of two types, by variant.
use Rattle.std.specs.Prelude.{Bool, true, false, Option, Some, None, pos, ◌++◌}
use Rattle.std.specs.declared.cmp.Ordering.{Ordering}
use Rattle.std.specs.declared.cmp.Ordering.TheVariants.{Less, Greater}
use Rattle.std.specs.Hash.{HashWrites, isize}

pub data Union (A B : Type 0) : Type 0 where
  First : A → Union A B
  Second : B → Union A B

abbrev pub is_first : {A B : Type 0} → Union A B → Bool
is_first (First a) = true
is_first (Second b) = false

abbrev pub is_second : {A B : Type 0} → Union A B → Bool
is_second (First a) = false
is_second (Second b) = true

abbrev pub first : {A B : Type 0} → Union A B → Option A
first (First a) = Some a
first (Second b) = None

abbrev pub second : {A B : Type 0} → Union A B → Option B
second (First a) = None
second (Second b) = Some b

-- of one kind, with equal values
abbrev pub union_eq : {A B : Type 0} → (A → A → Bool) → (B → B → Bool) → Union A B → Union A B → Bool
union_eq R S (First a) (First x) = R a x
union_eq R S (First a) (Second y) = false
union_eq R S (Second b) (First x) = false
union_eq R S (Second b) (Second y) = S b y

-- by the kinds if they differ, and else by the values
abbrev pub by_kind : {A B X : Type 0} → X → X → (A → A → X) → (B → B → X)
    → Union A B → Union A B → X
by_kind before after R S (First a) (First x) = R a x
by_kind before after R S (First a) (Second y) = before
by_kind before after R S (Second b) (First x) = after
by_kind before after R S (Second b) (Second y) = S b y

abbrev pub union_cmp : {A B : Type 0} → (A → A → Ordering) → (B → B → Ordering)
    → Union A B → Union A B → Ordering
union_cmp = by_kind Less Greater

abbrev pub union_partial_cmp : {A B : Type 0} → (A → A → Option Ordering) → (B → B → Option Ordering)
    → Union A B → Union A B → Option Ordering
union_partial_cmp = by_kind (Some Less) (Some Greater)

-- the number of the kind, and then what the value feeds
abbrev pub union_hash_input : {A B : Type 0} → (A → HashWrites) → (B → HashWrites) → Union A B → HashWrites
union_hash_input F G (First a) = isize (pos 0) ++ F a
union_hash_input F G (Second b) = isize (pos 1) ++ G b
