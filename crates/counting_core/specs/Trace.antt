-- Traces, and what each step makes of the handles and the owners of a block, by its answer alone.
use Rattle.std.specs.Prelude.{ℕ, List, ◌∷◌}
use Rattle.counting_core.specs.declared.activity.Activity.TheVariants.{Idle, Cloning, Dropping}
use Rattle.counting_core.specs.declared.handle_entry.Access.TheVariants.{Written, Sole as SoleAccess}
use Rattle.counting_core.specs.declared.handle_entry.Access.TheVariants.{Shared as SharedAccess}
use Rattle.counting_core.specs.declared.step.Answer.{Answer}
use Rattle.counting_core.specs.declared.step.Answer.TheVariants.{Born, Full, Pending, Ended, GivenUp, Alone, Done}
use Rattle.counting_core.specs.declared.step.Answer.TheVariants.{Quit as Quitted, Sole}
use Rattle.counting_core.specs.declared.step.Step.{Step}
use Rattle.counting_core.specs.declared.step.Step.TheVariants.{Raise, Drop, Lower, GetMut, EndWrite, IntoUnique, Share}
use Rattle.counting_core.specs.declared.step.Step.TheVariants.{Clone, Lend, Return, Give}
use Rattle.counting_core.specs.State.{State, newborn, lent_to, returned_by, put, ended, used_as, goes_on_to, handle_in}
use Rattle.counting_core.specs.Permitted.{owner_of}

-- A trace: the value, the number of owners and the limit that a block was opened with, and each step since, with its
-- answer.
pub data Trace (V : Type 0) : Type 0 where
  Open : (value : V) (owners limit : ℕ) → Trace V
  Then : (trace : Trace V) (step : Step V) (answer : Answer V) → Trace V

module _ {V : Type 0} where
  -- What a step makes of a state, by its answer. A read for a clone that is answered Pending sees this number. Barred,
  -- Memory and answers that are no change count for nothing.
  abbrev pub after : ℕ → State → Step V → Answer V → State
  after sees u s (Born n) = record (goes_on_to u (owner_of s) Idle) { handle = put u.handle n (newborn (owner_of s)) }
  after sees u s Full = goes_on_to u (owner_of s) Idle
  after sees u s Quitted = goes_on_to u (owner_of s) Idle
  after sees u (Clone o h) Pending = goes_on_to u o (Cloning h sees)
  after sees u (Raise o) Pending = goes_on_to u o (Cloning (handle_in (u.activity o)) sees)
  after sees u (Drop o h) Pending = goes_on_to u o (Dropping h)
  after sees u (Drop o h) Ended = ended u h
  after sees u (Lower o) Ended = goes_on_to (ended u (handle_in (u.activity o))) o Idle
  after sees u (Lower o) (GivenUp v) = goes_on_to (ended u (handle_in (u.activity o))) o Idle
  after sees u (GetMut o h) Alone = used_as u h Written
  after sees u (EndWrite o h) Done = used_as u h SharedAccess
  after sees u (IntoUnique o h) Sole = used_as u h SoleAccess
  after sees u (Share o h) Done = used_as u h SharedAccess
  after sees u (Lend o h to) Done = record u { handle = put u.handle h (lent_to (u.handle h) to) }
  after sees u (Return o h) Done = record u { handle = put u.handle h (returned_by (u.handle h) o) }
  after sees u (Give o h to) Done = record u { handle = put u.handle h (record (u.handle h) { holder = to }) }
  after sees u s a = u

  abbrev pub limit_of : Trace V → ℕ
  limit_of (Open v n limit) = limit
  limit_of (Then t s a) = limit_of t

  -- a trace followed by steps with their answers, in order
  abbrev pub then_all : Trace V → List (Step V) → List (Answer V) → Trace V
  then_all t (s ∷ steps) (a ∷ answers) = then_all (Then t s a) steps answers
  then_all t steps answers = t
