use Rattle.std.proofs.Common.{◌≡◌, ◌-◌, map}
use Rattle.std.specs.List.{range_with_len}
use Rattle.shared_count.specs.Inside.Shares.{newcomers}
use Rattle.shared_count.specs.Inside.Steps.{with_shares}
use Rattle.shared_count.specs.Passes.{first_pass}
use Rattle.shared_count.proofs.count.SharedCount.open.Given as goal

abbrev pub invariant-loop : goal.invariant-loop
invariant-loop l = record {
  one_word : l.table.shared.table_id.words ≡ 1;
  key : l.table.shared.key ≡ l.fn.n;
  table : l.seat.table_id ≡ l.table.shared.table_id;
  seat : l.seat.me ≡ with_shares (newcomers l.fn.n l.counter (l.fn.n - l.counter));
  passes : l.passes.items
      ≡ map (first_pass (record { table = l.table.shared.table_id; passes = l.fn.n })) (range_with_len 0 l.counter);
}
