-- When a core represents a trace.
use Rattle.std.specs.Prelude.{◌≡◌, ℕ, zero, suc, ◌+◌, Bool, true, false, if◌then◌else◌, List, length, slice_index_or}
use Rattle.counting_word.specs.CountingWord.{StandsFor}
use Rattle.counting_core.specs.declared.activity.Activity.{Activity}
use Rattle.counting_core.specs.declared.activity.Activity.TheVariants.{Idle, Dropping}
use Rattle.counting_core.specs.declared.step.Answer.{Answer}
use Rattle.counting_core.specs.declared.step.Step.{Step}
use Rattle.counting_core.specs.State.{HandleState, unborn, State}
use Rattle.counting_core.specs.Trace.{Trace, Then, then_all, limit_of}
use Rattle.counting_core.specs.Legal.{IsLegal, state, model}

-- A core, as its contracts show it: a value, a word and a limit, each handle ever born, and what each owner is in the
-- middle of.
pub record CoreState (V : Type 0) : Type 0 where
  pub value : V
  pub word : ℕ
  pub limit : ℕ
  pub handles : List HandleState
  pub owners : List Activity

abbrev pub is_dropping : Activity → Bool
is_dropping (Dropping h) = true
is_dropping activity = false

-- how many of the numbers below a bound pass a test
abbrev pub number_below : (ℕ → Bool) → ℕ → ℕ
number_below test zero = 0
number_below test (suc n) = (if test n then 1 else 0) + number_below test n

abbrev pub drops_in_flight : State → ℕ
drops_in_flight u = number_below (λ o. is_dropping (u.activity o)) u.owners

module _ {V : Type 0} where
  abbrev pub handle : CoreState V → ℕ → HandleState
  handle core h = slice_index_or core.handles h unborn

  abbrev pub activity : CoreState V → ℕ → Activity
  activity core o = slice_index_or core.owners o Idle

  abbrev pub state_of : CoreState V → State
  state_of core = record { owners = length core.owners; handle = handle core; activity = activity core }

  -- The trace is legal, and the core agrees with it. Here alone words and handles meet: the core's word stands for the
  -- live handles, and the word that a clone in flight saw last is the number of those that lived then.
  pub record Represents (core : CoreState V) (t : Trace V) : Type 0 where
    pub legal : IsLegal t
    pub same_state : state_of core ≡ state t
    pub same_value : core.value ≡ (model t).value
    pub same_limit : core.limit ≡ limit_of t
    pub same_births : length core.handles ≡ (model t).births
    pub word : StandsFor core.word (model t).mark (length (model t).live) (drops_in_flight (state t))

  -- some trace has led to the core
  abbrev pub IsReached : CoreState V → Type 0
  IsReached core = (t : Trace V) × Represents core t

  -- Whatever trace the core represented, it represents that trace followed by the step and its answer.
  abbrev pub Continues : CoreState V → Step V → Answer V → CoreState V → Type 0
  Continues old s a new = (t : Trace V) → Represents old t → Represents new (Then t s a)

-- the same for steps with an answer each, in order
pub record ContinuesAll {V : Type 0} (old : CoreState V) (s : List (Step V)) (a : List (Answer V)) (new : CoreState V)
    : Type 0 where
  pub one_each : length a ≡ length s
  pub represents : (t : Trace V) → Represents old t → Represents new (then_all t s a)
