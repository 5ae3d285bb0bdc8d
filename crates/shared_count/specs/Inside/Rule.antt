-- The rule of the word.
use Rattle.std.specs.Prelude.{◌≡◌, ℕ, ◌<◌, ◌≤◌, List, length, slice_index, All, sum_by}
use mathlib.Core.Option.{some}
use lib.ListN.{get_elem?}
use Rattle.atomic_table.specs.Table.{State}
use Rattle.counting_word.specs.CountingWord.{StandsFor}
use Rattle.shared_count.specs.History.{Event, CountState, IsLegal, left_by, owned_by}
use Rattle.shared_count.specs.Inside.Shares.{InDrop, Share, halves, drops}
use Rattle.shared_count.specs.Extends.{OthersExtend}

-- A share knows a beginning of the log, after which its pass made no call. A pass in a drop owns a handle.
pub record Knows (n : ℕ) (log : List Event) (s : Share) : Type 0 where
  pub opened : s.known.passes ≡ n
  pub begins : OthersExtend s.known.name s.known.seen log
  pub owns : s.part ≡ InDrop → 0 < owned_by n s.known.name log

-- the word stands for the state s with this number of drops in flight
abbrev pub Means : ℕ → CountState → ℕ → Type 0
Means word s in_drop = StandsFor word s.mark (length s.owners) in_drop

-- The rule of a count that was opened with n passes. There is one legal log of all calls. The word stands for the state
-- after it and for the drops in flight, each seat knows a beginning of it, and no pass has more than two halves.
pub record Keeps (n : ℕ) (s : State (Unit {0}) (List Share)) : Type 0 where
  pub log : List Event
  pub legal : IsLegal n log
  pub one_word : length s.words ≡ 1
  pub word : Means (slice_index s.words 0) (left_by n log) (sum_by drops s.views)
  pub seats : (id : ℕ) (shares : List Share) → get_elem? s.views id ≡ some shares → All (Knows n log) shares
  pub apart : (p : ℕ) → sum_by (halves p) s.views ≤ 2
