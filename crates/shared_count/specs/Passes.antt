-- The values of a count and of a pass in contracts, and the change of a pass by a call.
use Rattle.std.specs.Prelude.{◌≡◌, ℕ, true, List, [], ◌∷◌, ◌++◌}
use Rattle.atomic_table.specs.Seated.{TableId}
use Rattle.shared_count.specs.History.{TryClone, Born, Call, Event, IsLegal, left_by, owned_by, calls_of}
use Rattle.shared_count.specs.Extends.{event, OthersExtend, CallExtends, OvertakersExtend}

-- which count it is, and how many passes it was opened with
pub record CountId : Type 0 where
  pub table : TableId
  pub passes : ℕ

-- a pass of this count, with its name and the history that it has seen
pub record Pass : Type 0 where
  pub count : CountId
  pub name : ℕ
  pub seen : List Event

-- the pass of this name as `open` makes it
abbrev pub first_pass : CountId → ℕ → Pass
first_pass count name = record { count = count; name = name; seen = [] }

-- how many handles the pass owns, by what it has seen
abbrev pub handles : Pass → ℕ
handles p = owned_by p.count.passes p.name p.seen

-- the history that the pass has seen has a mark in it
abbrev pub HasSeenMark : Pass → Type 0
HasSeenMark p = (left_by p.count.passes p.seen).mark ≡ true

-- how many handles a clone with this reply adds
abbrev pub born_count : TryClone → ℕ
born_count Born = 1
born_count _ = 0

-- the calls that the pass made
abbrev pub own_calls : Pass → List Event
own_calls p = calls_of p.name p.seen

-- In each of the three the last field follows from the one before it. It spares callers the proof.

-- the pass made this call, and saw calls of others before it
pub record Called (old : Pass) (c : Call) (new : Pass) : Type 0 where
  pub legal : IsLegal old.count.passes new.seen
  pub extends : CallExtends old.name c old.seen new.seen
  pub own : own_calls new ≡ own_calls old ++ event old.name c ∷ []

-- the pass made no call, and saw calls of others
pub record HasSeenMore (old new : Pass) : Type 0 where
  pub legal : IsLegal old.count.passes new.seen
  pub extends : OthersExtend old.name old.seen new.seen
  pub own : own_calls new ≡ own_calls old

-- the pass made no call, and saw calls of others that changed the number of handles and left room for a clone
pub record WasOvertaken (old new : Pass) : Type 0 where
  pub legal : IsLegal old.count.passes new.seen
  pub extends : OvertakersExtend old.count.passes old.name old.seen new.seen
  pub own : own_calls new ≡ own_calls old
