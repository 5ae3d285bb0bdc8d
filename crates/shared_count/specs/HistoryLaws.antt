-- The statements of the lemmas about legal histories.
use Rattle.std.specs.Prelude.{◌≡◌, ℕ, ◌<◌, Bool, true, false, nat_lt, if◌then◌else◌, List, ◌++◌, length, count_by}
use Rattle.std.specs.Prelude.{sum_by}
use Rattle.std.specs.List.{range_with_len}
use Rattle.shared_count.specs.History.{Last, Call, End, Mark, Event, has_exactly, IsLegal, left_by, owned_by, calls_of}

abbrev pub is_mark : Call → Bool
is_mark Mark = true
is_mark _ = false

abbrev pub is_last : Call → Bool
is_last (End Last) = true
is_last _ = false

-- how many of these calls are of a kind
abbrev pub count_calls : (Call → Bool) → List Event → ℕ
count_calls kind events = count_by (λ e. kind e.call) events

abbrev pub BeginningsAreLegal : Type 0
BeginningsAreLegal = (n : ℕ) (h later : List Event) → IsLegal n (h ++ later) → IsLegal n h

abbrev pub HandlesAreOwned : Type 0
HandlesAreOwned =
    (n : ℕ) (h : List Event) → IsLegal n h
    → length (left_by n h).owners ≡ sum_by (λ p. owned_by n p h) (range_with_len 0 n)

abbrev pub CallsAreOfPasses : Type 0
CallsAreOfPasses =
    (n : ℕ) (h : List Event) (kind : Call → Bool) → IsLegal n h
    → count_calls kind h ≡ sum_by (λ p. count_calls kind (calls_of p h)) (range_with_len 0 n)

abbrev pub MarkedExactlyIfCalled : Type 0
MarkedExactlyIfCalled = (n : ℕ) (h : List Event) → (left_by n h).mark ≡ nat_lt 0 (count_calls is_mark h)

abbrev pub LastIsToldOnce : Type 0
LastIsToldOnce =
    (n : ℕ) (h : List Event) → 0 < n → IsLegal n h
    → count_calls is_last h ≡ (if has_exactly 0 (left_by n h) then 1 else 0)

abbrev pub OneEndIsLast : Type 0
OneEndIsLast =
    (n : ℕ) (h : List Event) → 0 < n → IsLegal n h
    → ((p : ℕ) → p < n → owned_by n p h ≡ 0) → ((p : ℕ)
    → p < n → count_calls is_mark (calls_of p h) ≡ 0)
    → sum_by (λ p. count_calls is_last (calls_of p h)) (range_with_len 0 n) ≡ 1
