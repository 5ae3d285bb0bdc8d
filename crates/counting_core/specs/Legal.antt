-- When a step is an event of the reference model, and which traces are legal.
use Rattle.std.specs.Prelude.{◌≡◌, ℕ, Bool, true, false, ◌||◌, ◌⊎◌, IsTrue, nat_eq, if◌then◌else◌, length}
use Rattle.counting_word.specs.CountingWord.{IsLimit}
use Rattle.counting_core.specs.declared.step.Answer.{Answer}
use Rattle.counting_core.specs.declared.step.Answer.TheVariants.{Born, Pending, Done, Memory, Barred, Quit as Quitted}
use Rattle.counting_core.specs.declared.step.Step.{Step}
use Rattle.counting_core.specs.declared.step.Step.TheVariants.{Clone, Raise, Quit, Drop, Lower, Mark, Unique, Static}
use Rattle.counting_core.specs.declared.step.Step.TheVariants.{GetMut, Write, EndWrite, IntoUnique, Share, Load, Lend}
use Rattle.counting_core.specs.declared.step.Step.TheVariants.{Return, Give}
use Rattle.counting_core.specs.State.{State, handle_in, seen_in, opening}
use Rattle.counting_core.specs.Permitted.{permitted}
use Rattle.counting_core.specs.Trace.{Trace, Open, Then, after}
use Rattle.counting_core.specs.ReferenceModel.{Model, Event, Clones, Ends, Marks, AsksUnique, AsksStatic, AsksMut}
use Rattle.counting_core.specs.ReferenceModel.{AsksSole, Writes, Loads, opened, is_full, respond}

-- A permitted step is an event of the reference model, or it is internal and has this answer.
pub data Move (V : Type 0) : Type 0 where
  Visible : (event : Event V) → Move V
  Internal : (answer : Answer V) → Move V

-- the handles and the owners after a trace, and the model
pub record Replay (V : Type 0) : Type 0 where
  pub state : State
  pub model : Model V

module _ {V : Type 0} where
  -- On an unmarked block below the limit a raise loses if the number of live handles is another than the one that
  -- its owner saw.
  abbrev pub raise_settles : Model V → ℕ → Bool
  raise_settles r seen = r.mark || (is_full r || nat_eq (length r.live) seen)

  abbrev pub move : Model V → State → Step V → Move V
  move r u (Clone o h) = if r.mark || is_full r then Visible Clones else Internal Pending
  move r u (Raise o) = if raise_settles r (seen_in (u.activity o)) then Visible Clones else Internal Pending
  move r u (Quit o) = Internal Quitted
  move r u (Drop o h) = if r.mark then Visible (Ends h) else Internal Pending
  move r u (Lower o) = Visible (Ends (handle_in (u.activity o)))
  move r u (Mark o h) = Visible Marks
  move r u (Unique o h) = Visible (AsksUnique h)
  move r u (Static o h) = Visible AsksStatic
  move r u (GetMut o h) = Visible (AsksMut h)
  move r u (Write o h v) = Visible (Writes v)
  move r u (IntoUnique o h) = Visible (AsksSole h)
  move r u (Load o h) = Visible Loads
  move r u (EndWrite o h) = Internal Done
  move r u (Share o h) = Internal Done
  move r u (Lend o h to) = Internal Done
  move r u (Return o h) = Internal Done
  move r u (Give o h to) = Internal Done

  -- the answer to a move, and the model after it
  abbrev pub outcome : Model V → Move V → Answer V × Model V
  outcome m (Visible event) = respond m event
  outcome m (Internal answer) = (answer, m)

  -- what a step with its answer makes of a model
  abbrev pub model_after : Model V → State → Step V → Answer V → Model V
  model_after r u s Barred = r
  model_after r u s Memory = r
  model_after r u s Pending = r
  model_after r u s a = (outcome r (move r u s)).1

  -- A read for a clone that is answered Pending sees how many handles live.
  abbrev pub replay : Trace V → Replay V
  replay (Open v n limit) = record { state = opening n; model = opened v limit }
  replay (Then t s a) = record {
    state = after (length (replay t).model.live) (replay t).state s a;
    model = model_after (replay t).model (replay t).state s a;
  }

  abbrev pub state : Trace V → State
  state t = (replay t).state

  abbrev pub model : Trace V → Model V
  model t = (replay t).model

  -- the answer to a step, unless memory is refused
  abbrev pub expected : Trace V → Step V → Answer V
  expected t s = if permitted (state t) s then (outcome (model t) (move (model t) (state t) s)).0 else Barred

  -- memory is taken by a birth and by a lending
  abbrev pub takes_memory : Step V → Answer V → Bool
  takes_memory s (Born n) = true
  takes_memory (Lend o h to) Done = true
  takes_memory s a = false

  abbrev pub IsAnswer : Trace V → Step V → Answer V → Type 0
  IsAnswer t s a = (a ≡ expected t s) ⊎ ((a ≡ Memory) × IsTrue (takes_memory s (expected t s)))

  abbrev pub IsLegal : Trace V → Type 0
  IsLegal (Open v n limit) = IsLimit limit
  IsLegal (Then t s a) = IsLegal t × IsAnswer t s a
