use Rattle.std.proofs.Common.{◌≡◌, ℕ, ◌∙◌, ◌≤◌, ap, arith, map}
use Rattle.std.specs.List.{range_with_len}
use Rattle.shared_count.specs.Passes.{CountId, first_pass}
use Rattle.shared_count.proofs.Opens.{opens, own_one, dealt, new_pass, left_over, grown}
use Rattle.shared_count.proofs.SplitsAndJoins.{deals}
use Rattle.shared_count.proofs.count.SharedCount.open.Goals as goal

-- a vector with room for n passes shows that n fits the word
pub of_words-requires : goal.of_words-requires
of_words-requires c =
    let room : c.args.n ≤ c.in_ok-passes.passes.cap = c.in_ok-passes.ensures.capacity in
    opens c.args.n (omega arith)

pub split_seat-seat-requires : goal.split_seat-seat-requires
split_seat-seat-requires c = (c.loop.invariant.table, omega arith, deals _ _ _)

pub invariant_of-push : goal.invariant_of-push
invariant_of-push c =
    new_pass c.args.n c.loop.counter c.loop-test.true c.loop.seat.me c.split_seat-seat.result.me c.loop.invariant.seat
    c.split_seat-seat.ensures.4

pub loop-preserved : goal.loop-preserved
loop-preserved c =
    let n = c.args.n in
    let name = c.loop.counter in
    let low = c.loop-test.true in
    let was = c.loop.invariant in
    let dealt_seat = c.split_seat-seat.result in
    let left = c.split_seat-seat.new.seat in
    let split = c.split_seat-seat.ensures in
    record {
      one_word = was.one_word;
      key = was.key;
      table = split.0 ∙ was.table;
      seat = left_over n name low c.loop.seat.me dealt_seat.me was.seat left.me split.2;
      passes = grown n name c.in_ok-table.table.shared.table_id dealt_seat.table_id dealt_seat.me c.push.new.self.items
          c.loop.passes.items (split.3 ∙ was.table)
          (dealt n name low c.loop.seat.me dealt_seat.me was.seat split.4) c.in_ok-push.ensures.items was.passes;
    }

pub returns-clause-owned : goal.returns-clause-owned
returns-clause-owned c =
    let all : c.loop.counter ≡ c.args.n = omega arith in
    let count : CountId = record { table = c.in_ok-table.table.shared.table_id; passes = c.args.n } in
    own_one count c.loop.passes.items
    (c.loop.invariant.passes ∙ ap (λ (n : ℕ). map (first_pass count) (range_with_len 0 n)) all)
