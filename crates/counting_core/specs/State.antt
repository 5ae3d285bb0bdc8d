-- The handles and the owners of a block, and how they are edited.
use Rattle.std.specs.BTreeSet.{insert_key}
use Rattle.std.specs.Ordering.{nat_cmp}
use Rattle.std.specs.Prelude.{ℕ, Bool, true, false, nat_eq, if◌then◌else◌, List, []}
use Rattle.std.specs.Set.{remove_key}
use Rattle.counting_core.specs.declared.activity.Activity.{Activity}
use Rattle.counting_core.specs.declared.activity.Activity.TheVariants.{Idle, Cloning, Dropping}
use Rattle.counting_core.specs.declared.handle_entry.Access.{Access}
use Rattle.counting_core.specs.declared.handle_entry.Access.TheVariants.{Shared as SharedAccess}

-- A handle lives from its birth until its end, a drop in flight included. It has a holder, a set of borrowers (the
-- owners to whom it is lent, in ascending order), and may be being written, or be sole.
pub record HandleState : Type 0 where
  pub lives : Bool
  pub holder : ℕ
  pub borrowers : List ℕ
  pub access : Access

abbrev pub unborn : HandleState
unborn = record { lives = false; holder = 0; borrowers = []; access = SharedAccess }

abbrev pub newborn : ℕ → HandleState
newborn owner = record unborn { lives = true; holder = owner }

abbrev pub lent_to : HandleState → ℕ → HandleState
lent_to k o = record k { borrowers = insert_key nat_cmp k.borrowers o }

abbrev pub returned_by : HandleState → ℕ → HandleState
returned_by k o = record k { borrowers = remove_key (nat_eq o) k.borrowers }

-- how many owners there are, each handle by its number, and what each owner is in the middle of
pub record State : Type 0 where
  pub owners : ℕ
  pub handle : ℕ → HandleState
  pub activity : ℕ → Activity

-- a function with another value at one place
abbrev pub put : {A : Type 0} → (ℕ → A) → ℕ → A → ℕ → A
put f i y k = if nat_eq i k then y else f k

abbrev pub ended : State → ℕ → State
ended u h = record u { handle = put u.handle h (record (u.handle h) { lives = false }) }

abbrev pub used_as : State → ℕ → Access → State
used_as u h access = record u { handle = put u.handle h (record (u.handle h) { access = access }) }

abbrev pub goes_on_to : State → ℕ → Activity → State
goes_on_to u o next = record u { activity = put u.activity o next }

-- the handle of what is in flight, and what a clone in flight saw last
abbrev pub handle_in : Activity → ℕ
handle_in (Cloning h seen) = h
handle_in (Dropping h) = h
handle_in Idle = 0

abbrev pub seen_in : Activity → ℕ
seen_in (Cloning h seen) = seen
seen_in activity = 0

-- at the opening owner 0 holds handle 0
abbrev pub opening : ℕ → State
opening n = record { owners = n; handle = put (λ h. unborn) 0 (newborn 0); activity = λ o. Idle }
