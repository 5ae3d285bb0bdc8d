-- A clone and an end between their two steps.
use Rattle.std.proofs.Common.{◌≡◌, ◌≢◌, ℕ, List, sym, refl, subst}
use Rattle.counting_word.specs.CountingWord.{greatest_count}
use Rattle.counting_word.specs.Plans.{clone_plan, drop_plan}
use Rattle.counting_word.specs.declared.ClonePlan.{ClonePlan}
use Rattle.counting_word.specs.declared.DropPlan.{DropPlan}
use Rattle.shared_count.specs.History.{Call, Clone, TryClone, Born, Full, Overtaken, Event}
use Rattle.shared_count.specs.Inside.Shares.{Known, seeing}
use Rattle.shared_count.specs.Extends.{OthersExtend}
use Rattle.shared_count.specs.Inside.Steps.{SeatState, Made, Counts, Counted, Judged, Begun}
use Rattle.shared_count.specs.Inside.Seats.{pass_at, state_at, CanCall, Replied}
use Rattle.shared_count.proofs.Histories.{others-trans, overtaken, overtaken_after}
use Rattle.shared_count.proofs.Calls.{looked_owns}

-- what a step tells, where its plan is p
pub judged_by : (x : Known) (p : ClonePlan) (found : ℕ) (m : SeatState) → p ≡ clone_plan found greatest_count
    → Judged x (clone_plan found greatest_count) found m → Judged x p found m
judged_by x p found m is = subst (λ (z : ClonePlan). Judged x z found m) (sym is)

pub begun_by : (x : Known) (p : DropPlan) (found : ℕ) (m : SeatState) → p ≡ drop_plan found
    → Begun x (drop_plan found) m → Begun x p m
begun_by x p found m is = subst (λ (z : DropPlan). Begun x z m) (sym is)

-- a call that was made after a look at the count
pub made_after : (x : Known) (h : List Event) (c : Call) (m : SeatState) → OthersExtend x.name x.seen h
    → Made (seeing x h) c m → Made x c m
made_after x h c m g made = record {
  seen = made.seen;
  call = record {
    before = made.call.before;
    others = others-trans x.name x.seen h made.call.before g made.call.others;
    ends = made.call.ends;
  };
  sees = record { seat = made.sees.seat; legal = made.sees.legal };
}

replied_after : (x : Known) (h : List Event) (r : TryClone) (m : SeatState) → OthersExtend x.name x.seen h
    → Replied (seeing x h) r m → Replied x r m
replied_after x h Born m g made = made_after x h (Clone Born) m g made
replied_after x h Full m g made = made_after x h (Clone Full) m g made
replied_after x h Overtaken m g over = (
  over.0,
  overtaken_after x.passes x.name x.seen h over.0 g over.1,
  record { seat = over.2.seat; legal = over.2.legal },
)

module _ (n : ℕ) (m m' : SeatState) (can : CanCall n m) where
  abbrev x : Known
  x = pass_at m

  -- a clone that was left half done
  module _ (found : ℕ) (read : Counted x found m') where
    abbrev h : List Event
    h = read.looked.seen

    pub can_raise : CanCall n m'
    can_raise = subst (CanCall n) (sym read.looked.sees.seat)
        (record { whole = refl; opened = can.opened; owns = looked_owns read.looked can.owns })

    pub has_read : Counts found (state_at m')
    has_read = subst (λ (z : SeatState). Counts found (state_at z)) (sym read.looked.sees.seat) read.counts

    pub replied : (r : TryClone) (m'' : SeatState) → Replied (pass_at m') r m'' → Replied x r m''
    replied r m'' told = replied_after x h r m'' read.looked.others
        (subst (λ (z : SeatState). Replied (pass_at z) r m'') read.looked.sees.seat told)

  -- a raise that lost
  pub lost : (word found : ℕ) → Counts word (state_at m) → Counted x found m' → found ≢ word → Replied x Overtaken m'
  lost word found was now other = (
    now.looked.seen,
    overtaken x.passes x.name x.seen now.looked.seen word found now.looked.others now.looked.sees.legal can.owns was
        now.counts other now.room,
    now.looked.sees,
  )
