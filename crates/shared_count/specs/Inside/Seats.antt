-- The pass of a seat, and what the steps of a call require and ensure.
use Rattle.std.specs.Prelude.{◌≡◌, ℕ, ◌<◌, List, [], ◌∷◌}
use Rattle.atomic_table.specs.Seated.{TableId}
use Rattle.shared_count.specs.History.{Clone, TryClone, Born, Full, Overtaken, Event, CountState, IsLegal, left_by}
use Rattle.shared_count.specs.History.{owned_by}
use Rattle.shared_count.specs.Inside.Shares.{Known, Whole, Share, known}
use Rattle.shared_count.specs.Extends.{OvertakersExtend}
use Rattle.shared_count.specs.Passes.{Pass}
use Rattle.shared_count.specs.Inside.Steps.{SeatState, with_part, Sees, Made}

-- what the first share knows of its pass
abbrev pub first_known : List Share → Known
first_known [] = known 0 0 []
first_known (s ∷ ss) = s.known

-- what the seat of a pass knows of it
abbrev pub pass_at : SeatState → Known
pass_at m = first_known m.0

-- the state that this pass has seen last
abbrev pub state_at : SeatState → CountState
state_at m = left_by (pass_at m).passes (pass_at m).seen

abbrev pub handles_at : SeatState → ℕ
handles_at m = owned_by (pass_at m).passes (pass_at m).name (pass_at m).seen

-- the seat of a whole pass that owns a handle, of a count that was opened with n passes
pub record CanCall (n : ℕ) (m : SeatState) : Type 0 where
  pub whole : m ≡ with_part (pass_at m) Whole
  pub opened : (pass_at m).passes ≡ n
  pub owns : 0 < handles_at m

-- the seat of the pass x after a clone with this reply
abbrev pub Replied : Known → TryClone → SeatState → Type 0
Replied x Born m = Made x (Clone Born) m
Replied x Full m = Made x (Clone Full) m
Replied x Overtaken m = (h : List Event) × OvertakersExtend x.passes x.name x.seen h × Sees x Whole h m

-- the pass of a seat of this table
abbrev pub pass_of : TableId → SeatState → Pass
pass_of table m = record {
  count = record { table = table; passes = (pass_at m).passes };
  name = (pass_at m).name;
  seen = (pass_at m).seen;
}

-- the seat of a whole pass that owns this number of handles
pub record IsPass (m : SeatState) (owned : ℕ) : Type 0 where
  pub whole : m ≡ with_part (pass_at m) Whole
  pub legal : IsLegal (pass_at m).passes (pass_at m).seen
  pub owns : owned ≡ handles_at m
