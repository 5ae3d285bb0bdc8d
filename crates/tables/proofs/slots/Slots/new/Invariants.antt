use Rattle.std.proofs.Common.{◌≡◌, ◌≤◌, replicate, None, vec_len, vec_capacity}
use Rattle.tables.proofs.slots.Slots.new.Given as goal

abbrev pub invariant-loop : goal.invariant-loop
invariant-loop g l = record {
  items : l.handles.items ≡ replicate l.counter None;
  len : vec_len l.handles ≡ l.counter;
  room : l.slots ≤ vec_capacity l.handles;
}
