-- What each step on the word adds to the knowledge of the seat that makes it.
use Rattle.std.specs.Prelude.{◌≡◌, ◌≢◌, ℕ, ◌<◌, false, List, [], ◌∷◌, length}
use Rattle.atomic_table.specs.Table.{Me, Step}
use Rattle.counting_word.specs.CountingWord.{greatest_count, is_marked_word, is_one_handle}
use Rattle.counting_word.specs.Plans.{clone_plan, drop_plan}
use Rattle.counting_word.specs.declared.ClonePlan.{ClonePlan}
use Rattle.counting_word.specs.declared.ClonePlan.TheVariants as plan
use Rattle.counting_word.specs.declared.DropPlan.{DropPlan}
use Rattle.counting_word.specs.declared.DropPlan.TheVariants as drop_as
use Rattle.shared_count.specs.History.{Call, Clone, End, Mark, Unique, Static, Born, Full, Ended, Event, CountState}
use Rattle.shared_count.specs.History.{end_reply, IsLegal, left_by}
use Rattle.shared_count.specs.Inside.Shares.{Known, Part, Half, Whole, InDrop, Share, share, seeing}
use Rattle.shared_count.specs.Extends.{OthersExtend, CallExtends}

-- a seat's view, and the slots that it holds, which are none here
abbrev pub SeatState : Type 0
SeatState = Me (Unit {0}) (List Share)

abbrev pub with_shares : List Share → SeatState
with_shares shares = (shares, [])

-- the seat of this part of the pass x
abbrev pub with_part : Known → Part → SeatState
with_part x part = with_shares (share x part ∷ [])

-- the seat of the pass x once it has seen the legal history h
pub record Sees (x : Known) (part : Part) (h : List Event) (m : SeatState) : Type 0 where
  pub seat : m ≡ with_part (seeing x h) part
  pub legal : IsLegal x.passes h

-- the pass x made this call
pub record Made (x : Known) (c : Call) (m : SeatState) : Type 0 where
  pub seen : List Event
  pub call : CallExtends x.name c x.seen seen
  pub sees : Sees x Whole seen m

-- the pass x has seen later calls of others, and made none
pub record Looked (x : Known) (part : Part) (m : SeatState) : Type 0 where
  pub seen : List Event
  pub others : OthersExtend x.name x.seen seen
  pub sees : Sees x part seen m

-- unmarked, with n handles
abbrev pub Counts : ℕ → CountState → Type 0
Counts n s = (s.mark ≡ false) × (length s.owners ≡ n)

-- the pass x has seen a history that leaves the count unmarked with this number of handles, below the limit
pub record Counted (x : Known) (found : ℕ) (m : SeatState) : Type 0 where
  pub looked : Looked x Whole m
  pub counts : Counts found (left_by x.passes looked.seen)
  pub room : found < greatest_count

-- the seat of the pass x after the load of a clone, by the plan for the word that was found
abbrev pub Judged : Known → ClonePlan → ℕ → SeatState → Type 0
Judged x plan.Static found m = Made x (Clone Born) m
Judged x plan.Full found m = Made x (Clone Full) m
Judged x (plan.Raise _) found m = Counted x found m

-- the seat of the pass x after the load of an end, by its plan
abbrev pub Begun : Known → DropPlan → SeatState → Type 0
Begun x drop_as.Static m = Made x (End Ended) m
Begun x drop_as.Lower m = Looked x InDrop m

-- If the seat had this part of the pass x before the step, then `says` holds of x, the number found and the seat after.
abbrev pub Tells : Part → (Known → ℕ → SeatState → Type 0) → SeatState → ℕ → SeatState → Type 0
Tells part says m found m' = (x : Known) → m ≡ with_part x part → says x found m'

abbrev pub TellsUnique : Step (Unit {0}) → SeatState → ℕ → SeatState → Type 0
TellsUnique st = Tells Whole (λ x found. Made x (Unique (is_one_handle found)))

abbrev pub TellsStatic : Step (Unit {0}) → SeatState → ℕ → SeatState → Type 0
TellsStatic st = Tells Whole (λ x found. Made x (Static (is_marked_word found)))

abbrev pub TellsMark : Step (Unit {0}) → SeatState → ℕ → SeatState → Type 0
TellsMark st = Tells Whole (λ x found. Made x Mark)

abbrev pub TellsClone : Step (Unit {0}) → SeatState → ℕ → SeatState → Type 0
TellsClone st = Tells Whole (λ x found. Judged x (clone_plan found greatest_count) found)

-- a compare-exchange that finds another word than the expected one tells what a load of that word would
abbrev pub TellsRaise : Step (Unit {0}) → SeatState → ℕ → SeatState → Type 0
TellsRaise st = Tells Whole (λ x found m.
    (found ≡ st.first → Made x (Clone Born) m)
    × (found ≢ st.first → Judged x (clone_plan found greatest_count) found m))

abbrev pub TellsEnd : Step (Unit {0}) → SeatState → ℕ → SeatState → Type 0
TellsEnd st = Tells Whole (λ x found. Begun x (drop_plan found))

abbrev pub TellsLower : Step (Unit {0}) → SeatState → ℕ → SeatState → Type 0
TellsLower st = Tells InDrop (λ x found. Made x (End (end_reply (is_one_handle found))))

-- the seat of the pass x, with a note of the pass y
abbrev pub with_both : Known → Known → SeatState
with_both x y = with_shares (share y Half ∷ share x Whole ∷ [])

-- the legal history h is what x has seen and then calls of others
pub record Follows (x : Known) (h : List Event) : Type 0 where
  pub others : OthersExtend x.name x.seen h
  pub legal : IsLegal x.passes h

-- two passes have seen one history
pub record BothSaw (x y : Known) (m : SeatState) : Type 0 where
  pub seen : List Event
  pub first : Follows x seen
  pub second : Follows y seen
  pub apart : x.name ≢ y.name
  pub seat : m ≡ with_both (seeing x seen) (seeing y seen)

abbrev pub TellsMeet : Step (Unit {0}) → SeatState → ℕ → SeatState → Type 0
TellsMeet st m found m' = (x y : Known) → m ≡ with_both x y → BothSaw x y m'
