-- The reference model: a value, the live handles, a mark, the number of births, and the limit, which no event changes.
-- It has no word, and no call of it is ever half done.
use Rattle.std.specs.List.{list_any, filter}
use Rattle.std.specs.Prelude.{ℕ, ◌+◌, Bool, true, false, not, ◌&&◌, nat_eq, if◌then◌else◌, List, [], ◌∷◌, ◌++◌, length}
use Rattle.counting_core.specs.declared.step.Answer.{Answer}
use Rattle.counting_core.specs.declared.step.Answer.TheVariants.{Born, Full, Ended, GivenUp, Marked, Is, Alone, Done}
use Rattle.counting_core.specs.declared.step.Answer.TheVariants.{Value, Sole, Shared}

pub record Model (V : Type 0) : Type 0 where
  pub value : V
  pub live : List ℕ
  pub mark : Bool
  pub births : ℕ
  pub limit : ℕ

pub data Event (V : Type 0) : Type 0 where
  Clones : Event V
  Ends : (handle : ℕ) → Event V
  Marks : Event V
  AsksUnique : (handle : ℕ) → Event V
  AsksStatic : Event V
  AsksMut : (handle : ℕ) → Event V
  AsksSole : (handle : ℕ) → Event V
  Writes : (value : V) → Event V
  Loads : Event V

abbrev pub without : ℕ → List ℕ → List ℕ
without h = filter (λ k. not (nat_eq h k))

module _ {V : Type 0} where
  abbrev pub opened : V → ℕ → Model V
  opened v limit = record { value = v; live = 0 ∷ []; mark = false; births = 1; limit = limit }

  -- unmarked, and as many handles live as may
  abbrev pub is_full : Model V → Bool
  is_full m = not m.mark && nat_eq (length m.live) m.limit

  -- unmarked, and no handle lives but this one
  abbrev pub is_only : Model V → ℕ → Bool
  is_only m h = not m.mark && (nat_eq (length m.live) 1 && list_any (nat_eq h) m.live)

  -- the answer to an event, and the model after it
  abbrev pub respond : Model V → Event V → Answer V × Model V
  respond m Clones = if is_full m then (Full, m)
      else (Born m.births, record m { live = m.live ++ m.births ∷ []; births = m.births + 1 })
  respond m (Ends h) = (if is_only m h then GivenUp m.value else Ended, record m { live = without h m.live })
  respond m Marks = (Marked, record m { mark = true })
  respond m (AsksUnique h) = (Is (is_only m h), m)
  respond m AsksStatic = (Is m.mark, m)
  respond m (AsksMut h) = (if is_only m h then Alone else Shared, m)
  respond m (AsksSole h) = (if is_only m h then Sole else Shared, m)
  respond m (Writes v) = (Done, record m { value = v })
  respond m Loads = (Value m.value, m)
