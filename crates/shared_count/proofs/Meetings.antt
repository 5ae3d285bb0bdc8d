-- The seats of two passes that meet, from step to step.
use Rattle.std.proofs.Common.{◌≡◌, ℕ, List, [], ◌∷◌, sym, ap, ◌∙◌, subst}
use mathlib.Core.Option.{none}
use Rattle.atomic_table.specs.Table.{step, Allows, Splits}
use Rattle.shared_count.specs.History.{Event}
use Rattle.shared_count.specs.Inside.Shares.{Known, Half, Whole, share, seeing, all_but_first, first_alone, as_halves}
use Rattle.shared_count.specs.Inside.Shares.{with_note, as_in_note}
use Rattle.shared_count.specs.Inside.Rule.{Keeps}
use Rattle.shared_count.specs.Inside.Steps.{SeatState, with_shares, with_part, with_both, BothSaw, TellsMeet}
use Rattle.shared_count.proofs.SplitsAndJoins.{writes_note, meets}

pub can_write : (n id : ℕ) {m : SeatState} {y : Known} → m ≡ with_part y Whole
    → Splits {S = Unit {0}} (Keeps n) id m.0 (as_halves m.0) (as_halves m.0)
can_write n id {m} {y} is =
    subst (λ (z : SeatState). Splits {S = Unit {0}} (Keeps n) id z.0 (as_halves z.0) (as_halves z.0)) (sym is)
    (writes_note n id y)

-- after the note is written, its pass has the other half
module _ {m : SeatState} {y : Known} (is : m ≡ with_part y Whole) where
  pub left_half : {m' : SeatState} → m' ≡ (as_halves m.0, m.1) → m' ≡ with_part y Half
  left_half e = e ∙ ap (λ (z : SeatState). (as_halves z.0, z.1)) is

  note_half : {note : SeatState} → note ≡ (as_halves m.0, []) → note ≡ with_part y Half
  note_half e = e ∙ ap (λ (z : SeatState). with_shares (as_halves z.0)) is

-- the other pass takes it in
pub joined_is : {m n note m' : SeatState} {x y : Known} → m ≡ with_part x Whole → n ≡ with_part y Whole
    → note ≡ (as_halves n.0, []) → m' ≡ (with_note m.0 note.0, m.1) → m' ≡ with_both x y
joined_is {m} {n} {note} {m'} {x} {y} first second written joined =
    joined ∙ ap (λ (z : SeatState). (with_note m.0 z.0, m.1)) (note_half second written)
    ∙ ap (λ (z : SeatState). (with_note z.0 (share y Half ∷ []), z.1)) first

pub can_look : (n slots id : ℕ) {m : SeatState} {x y : Known} → m ≡ with_both x y
    → Allows (Keeps n) slots id m 0 (λ r. r) (TellsMeet (step slots 0 0 0 none) m)
can_look n slots id {m} {x} {y} is =
    subst (λ (z : SeatState). Allows (Keeps n) slots id z 0 (λ r. r) (TellsMeet (step slots 0 0 0 none) z)) (sym is)
    (meets x y n slots id)

-- both have seen one history, and the note is taken out
module _ {x y : Known} {m : SeatState} (saw : BothSaw x y m) where
  pub looked_is : {m' : SeatState} → m' ≡ (all_but_first m.0, m.1) → m' ≡ with_part (seeing x saw.seen) Whole
  looked_is e = e ∙ ap (λ (z : SeatState). (all_but_first z.0, z.1)) saw.seat

  pub note_is : {note : SeatState} → note ≡ (first_alone m.0, []) → note ≡ with_part (seeing y saw.seen) Half
  note_is e = e ∙ ap (λ (z : SeatState). with_shares (first_alone z.0)) saw.seat

-- the note is back with its own pass
pub read_is : {m note m' : SeatState} {y : Known} {h : List Event} → m ≡ with_part y Half
    → note ≡ with_part (seeing y h) Half → m' ≡ (as_in_note m.0 note.0, m.1) → m' ≡ with_part (seeing y h) Whole
read_is {m} {note} {m'} {y} {h} is note_is after =
    after ∙ ap (λ (z : SeatState). (as_in_note m.0 z.0, m.1)) note_is
    ∙ ap (λ (z : SeatState). (share (seeing y h) Whole ∷ [], z.1)) is
