-- The history of a count: the calls of its passes with their replies, the earliest first.
use Rattle.std.specs.Prelude.{◌≡◌, ℕ, ◌<◌, Bool, true, false, not, ◌&&◌, if◌then◌else◌, nat_eq, List, [], ◌∷◌, length}
use Rattle.std.specs.Prelude.{count_by, filter}
use Rattle.std.specs.List.{range_with_len}
use Rattle.counting_word.specs.CountingWord.{greatest_count}
pub use Rattle.shared_count.specs.declared.replies.TryClone.{TryClone}
pub use Rattle.shared_count.specs.declared.replies.TryClone.TheVariants.{Born, Full, Overtaken}
pub use Rattle.shared_count.specs.declared.replies.EndReply.{EndReply}
pub use Rattle.shared_count.specs.declared.replies.EndReply.TheVariants.{Ended, Last}
pub use Rattle.shared_count.specs.declared.ghost_types.Call.{Call}
pub use Rattle.shared_count.specs.declared.ghost_types.Call.TheVariants.{Clone, End, Mark, Unique, Static}
pub use Rattle.shared_count.specs.declared.ghost_types.Event.{Event}

-- the owner of each live handle, in no order, and the mark
pub record CountState : Type 0 where
  pub owners : List ℕ
  pub mark : Bool

-- a new count: each of its n passes owns one handle
abbrev pub opening : ℕ → CountState
opening n = record { owners = range_with_len 0 n; mark = false }

-- how many handles p owns
abbrev pub handles_of : ℕ → CountState → ℕ
handles_of p s = count_by (nat_eq p) s.owners

-- the owners, with one p taken out
abbrev pub without : ℕ → List ℕ → List ℕ
without p [] = []
without p (x ∷ xs) = if nat_eq p x then xs else (x ∷ without p xs)

-- the state after a call of p
abbrev pub next : CountState → ℕ → Call → CountState
next s p (Clone Born) = record { owners = p ∷ s.owners; mark = s.mark }
next s p (End reply) = record { owners = without p s.owners; mark = s.mark }
next s p Mark = record { owners = s.owners; mark = true }
next s p _ = s

-- whether the count is unmarked and has exactly n handles
abbrev pub has_exactly : ℕ → CountState → Bool
has_exactly n s = not s.mark && nat_eq (length s.owners) n

abbrev pub end_reply : Bool → EndReply
end_reply none_left = if none_left then Last else Ended

-- the reply is the right one to a call of p in the state s
abbrev pub IsReply : CountState → ℕ → Call → Type 0
IsReply s p (Clone reply) = reply ≡ (if has_exactly greatest_count s then Full else Born)
IsReply s p (End reply) = reply ≡ end_reply (has_exactly 0 (next s p (End reply)))
IsReply s p Mark = Unit {0}
IsReply s p (Unique answer) = answer ≡ has_exactly 1 s
IsReply s p (Static answer) = answer ≡ s.mark

-- from the state s on, each caller owns a handle, and each reply is the right one
abbrev pub IsLegalFrom : CountState → List Event → Type 0
IsLegalFrom s [] = Unit {0}
IsLegalFrom s (e ∷ es) =
    (0 < handles_of e.caller s) × IsReply s e.caller e.call × IsLegalFrom (next s e.caller e.call) es

-- a legal history of a count that was opened with n passes
abbrev pub IsLegal : ℕ → List Event → Type 0
IsLegal n h = IsLegalFrom (opening n) h

abbrev pub state_after : CountState → List Event → CountState
state_after s [] = s
state_after s (e ∷ es) = state_after (next s e.caller e.call) es

-- the state after a history of a count that was opened with n passes
abbrev pub left_by : ℕ → List Event → CountState
left_by n h = state_after (opening n) h

-- how many handles p owns at the end of h
abbrev pub owned_by : ℕ → ℕ → List Event → ℕ
owned_by n p h = handles_of p (left_by n h)

-- the calls of p in h
abbrev pub calls_of : ℕ → List Event → List Event
calls_of p h = filter (λ e. nat_eq p e.caller) h
