-- The owner of a step, and which steps each owner is permitted.
use Rattle.std.specs.List.{list_any}
use Rattle.std.specs.Prelude.{ℕ, Bool, true, false, not, ◌&&◌, ◌||◌, nat_eq, nat_lt, Option, None, Some, length}
use Rattle.counting_core.specs.declared.activity.Activity.{Activity}
use Rattle.counting_core.specs.declared.activity.Activity.TheVariants.{Idle, Cloning, Dropping}
use Rattle.counting_core.specs.declared.handle_entry.Access.{Access}
use Rattle.counting_core.specs.declared.handle_entry.Access.TheVariants.{Written, Shared as SharedAccess}
use Rattle.counting_core.specs.declared.handle_entry.Access.TheVariants.{Sole as SoleAccess}
use Rattle.counting_core.specs.declared.step.Step.{Step}
use Rattle.counting_core.specs.declared.step.Step.TheVariants.{Clone, Raise, Quit, Drop, Lower, Mark, Unique, Static}
use Rattle.counting_core.specs.declared.step.Step.TheVariants.{GetMut, Write, EndWrite, IntoUnique, Share, Load, Lend}
use Rattle.counting_core.specs.declared.step.Step.TheVariants.{Return, Give}
use Rattle.counting_core.specs.State.{HandleState, State}

abbrev pub is_shared : Access → Bool
is_shared SharedAccess = true
is_shared access = false

abbrev pub is_written : Access → Bool
is_written Written = true
is_written access = false

abbrev pub is_sole : Access → Bool
is_sole SoleAccess = true
is_sole access = false

-- what the owner o may do with a handle in the state k
module _ (k : HandleState) (o : ℕ) where
  abbrev pub holds : Bool
  holds = k.lives && nat_eq k.holder o

  abbrev pub is_lent_to : Bool
  is_lent_to = list_any (nat_eq o) k.borrowers

  -- holds it, and it is lent to nobody
  abbrev pub has_alone : Bool
  has_alone = holds && nat_eq (length k.borrowers) 0

  -- holds it or was lent it, and it is neither being written nor sole
  abbrev pub may_use : Bool
  may_use = k.lives && ((nat_eq k.holder o || is_lent_to) && is_shared k.access)

  abbrev pub may_take : Bool
  may_take = has_alone && is_shared k.access

  abbrev pub is_writing : Bool
  is_writing = holds && is_written k.access

  abbrev pub has_sole : Bool
  has_sole = has_alone && is_sole k.access

abbrev pub is_another : State → ℕ → ℕ → Bool
is_another u o to = nat_lt to u.owners && not (nat_eq to o)

-- The owner whose step it is, the handle that it is on, and whether the owner may make it with nothing in flight. A
-- raise, a quit and a lower go on with what is in flight, and are on no handle.
abbrev pub request : {V : Type 0} → Step V → ℕ × Option ℕ × (State → Bool)
request (Raise o) = (o, None, λ u. false)
request (Quit o) = (o, None, λ u. false)
request (Lower o) = (o, None, λ u. false)
request (Clone o h) = (o, Some h, λ u. may_use (u.handle h) o)
request (Mark o h) = (o, Some h, λ u. may_use (u.handle h) o)
request (Load o h) = (o, Some h, λ u. may_use (u.handle h) o || has_sole (u.handle h) o)
request (Unique o h) = (o, Some h, λ u. may_use (u.handle h) o)
request (Static o h) = (o, Some h, λ u. may_use (u.handle h) o)
request (GetMut o h) = (o, Some h, λ u. may_take (u.handle h) o)
request (IntoUnique o h) = (o, Some h, λ u. may_take (u.handle h) o)
request (Drop o h) = (o, Some h, λ u. may_take (u.handle h) o || has_sole (u.handle h) o)
request (Give o h to) = (o, Some h, λ u. (may_take (u.handle h) o || has_sole (u.handle h) o) && is_another u o to)
request (Lend o h to) = (
  o,
  Some h,
  λ u. holds (u.handle h) o
      && (is_shared (u.handle h).access && (is_another u o to && not (is_lent_to (u.handle h) to))),
)
request (Return o h) = (o, Some h, λ u. (u.handle h).lives && is_lent_to (u.handle h) o)
request (Write o h v) = (o, Some h, λ u. is_writing (u.handle h) o || has_sole (u.handle h) o)
request (EndWrite o h) = (o, Some h, λ u. is_writing (u.handle h) o)
request (Share o h) = (o, Some h, λ u. has_sole (u.handle h) o)

abbrev pub owner_of : {V : Type 0} → Step V → ℕ
owner_of s = (request s).0

abbrev pub handle_of : {V : Type 0} → Step V → Option ℕ
handle_of s = (request s).1

-- by what the owner of the step is in the middle of
abbrev pub permitted_by : {V : Type 0} → State → Activity → Step V → Bool
permitted_by u (Cloning h seen) (Raise o) = true
permitted_by u (Cloning h seen) (Quit o) = true
permitted_by u (Dropping h) (Lower o) = true
permitted_by u Idle s = (request s).2 u
permitted_by u activity s = false

abbrev pub permitted : {V : Type 0} → State → Step V → Bool
permitted u s = nat_lt (owner_of s) u.owners && permitted_by u (u.activity (owner_of s)) s
