use Rattle.std.proofs.Common.{◌∙◌, sym, ap, arith}
use Rattle.shared_count.specs.Passes.{Pass}
use Rattle.shared_count.specs.Inside.Seats.{pass_at}
use Rattle.shared_count.specs.Inside.Steps.{SeatState}
use Rattle.shared_count.proofs.Calls.{of_table, after_meet}
use Rattle.shared_count.proofs.Meetings.{can_write, left_half, joined_is, can_look, looked_is, note_is, read_is}
use Rattle.shared_count.proofs.SplitsAndJoins.{takes_note, deals, takes_back}
use Rattle.shared_count.proofs.count.SharedCount.meet.Goals as goal

pub split_seat-note-requires : goal.split_seat-note-requires
split_seat-note-requires c = (
  of_table c.second.invariant c.second.view_is c.self.view_is c.requires.second,
  omega arith,
  can_write _ _ c.second.invariant.whole,
)

pub join_seat-requires : goal.join_seat-requires
join_seat-requires c = let split = c.split_seat-note.ensures in (
  of_table c.first.invariant c.first.view_is c.self.view_is c.requires.first,
  split.3 ∙ of_table c.second.invariant c.second.view_is c.self.view_is c.requires.second,
  ap (λ (m : SeatState). m.1) split.4,
  omega arith,
  takes_note _ _ _ _ _,
)

pub load-requires : goal.load-requires
load-requires c = (
  c.join_seat.ensures.0 ∙ of_table c.first.invariant c.first.view_is c.self.view_is c.requires.first,
  omega arith,
  can_look _ _ _ (joined_is c.first.invariant.whole c.second.invariant.whole c.split_seat-note.ensures.4
      c.join_seat.ensures.2),
)

pub split_seat-read-requires : goal.split_seat-read-requires
split_seat-read-requires c = (
  c.load.ensures.0 ∙ c.join_seat.ensures.0
      ∙ of_table c.first.invariant c.first.view_is c.self.view_is c.requires.first,
  omega arith,
  deals _ _ _,
)

pub join_seat-requires-2 : goal.join_seat-requires-2
join_seat-requires-2 c =
    let split = c.split_seat-note.ensures in
    let again = c.split_seat-read.ensures in
    let saw = c.load.ensures.2 (pass_at c.first.inside.seat.me) (pass_at c.second.inside.seat.me)
    (joined_is c.first.invariant.whole c.second.invariant.whole split.4 c.join_seat.ensures.2) in (
      split.0 ∙ of_table c.second.invariant c.second.view_is c.self.view_is c.requires.second,
      again.3 ∙ c.load.ensures.0 ∙ c.join_seat.ensures.0
          ∙ of_table c.first.invariant c.first.view_is c.self.view_is c.requires.first,
      ap (λ (m : SeatState). m.1) again.4,
      omega arith,
      takes_back _ _ _ (pass_at c.second.inside.seat.me) saw.seen _ _ (left_half c.second.invariant.whole split.2)
          (note_is saw again.4),
    )

pub invariant_of-first : goal.invariant_of-first
invariant_of-first c =
    let saw = c.load.ensures.2 (pass_at c.first.inside.seat.me) (pass_at c.second.inside.seat.me)
    (joined_is c.first.invariant.whole c.second.invariant.whole c.split_seat-note.ensures.4 c.join_seat.ensures.2) in
    (after_meet c.first.invariant c.first.view_is
    (c.split_seat-read.ensures.0 ∙ c.load.ensures.0 ∙ c.join_seat.ensures.0) saw.seen saw.first
    (looked_is saw c.split_seat-read.ensures.2)).pass

pub invariant_of-second : goal.invariant_of-second
invariant_of-second c =
    let split = c.split_seat-note.ensures in
    let saw = c.load.ensures.2 (pass_at c.first.inside.seat.me) (pass_at c.second.inside.seat.me)
    (joined_is c.first.invariant.whole c.second.invariant.whole split.4 c.join_seat.ensures.2) in
    (after_meet c.second.invariant c.second.view_is (c.join_seat-2.ensures.0 ∙ split.0) saw.seen saw.second
    (read_is (left_half c.second.invariant.whole split.2) (note_is saw c.split_seat-read.ensures.4)
    c.join_seat-2.ensures.2)).pass

pub returns : goal.returns
returns c =
    let split = c.split_seat-note.ensures in
    let saw = c.load.ensures.2 (pass_at c.first.inside.seat.me) (pass_at c.second.inside.seat.me)
    (joined_is c.first.invariant.whole c.second.invariant.whole split.4 c.join_seat.ensures.2) in
    let first_is = looked_is saw c.split_seat-read.ensures.2 in
    let second_is = read_is (left_half c.second.invariant.whole split.2) (note_is saw c.split_seat-read.ensures.4)
    c.join_seat-2.ensures.2 in
    let first = after_meet c.first.invariant c.first.view_is
    (c.split_seat-read.ensures.0 ∙ c.load.ensures.0 ∙ c.join_seat.ensures.0) saw.seen saw.first first_is in
    let second = after_meet c.second.invariant c.second.view_is (c.join_seat-2.ensures.0 ∙ split.0) saw.seen saw.second
    second_is in
    record {
      first_pass = first.same;
      second_pass = second.same;
      first_seen = first.more;
      second_seen = second.more;
      together = ap (λ (m : SeatState). (pass_at m).seen) first_is
          ∙ sym (ap (λ (m : SeatState). (pass_at m).seen) second_is);
      apart = λ e. saw.apart
          (ap (λ (p : Pass). p.name) c.first.view_is ∙ e ∙ sym (ap (λ (p : Pass). p.name) c.second.view_is));
      first_owned = first.handles;
      second_owned = second.handles;
    }
