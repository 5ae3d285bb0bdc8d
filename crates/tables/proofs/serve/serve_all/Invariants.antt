use Rattle.std.proofs.Common.{All, ◌≡◌, ◌≤◌, ◌+◌, ◌++◌, length, vec_len, vec_capacity}
use Rattle.std.specs.Vec.Iter.{into_iter_items, into_iter_len}
use Rattle.commands.specs.Runs.{Run}
use Rattle.tables.proofs.serve.serve_all.Given as goal

abbrev pub invariant-loop-command : goal.invariant-loop-command
invariant-loop-command g l = record {
  all : l.yielded ++ into_iter_items l.command-iterator ≡ into_iter_items l.initial.command-iterator;
  left : into_iter_len l.command-iterator ≡ length (into_iter_items l.command-iterator);
  room : vec_len l.replies + into_iter_len l.command-iterator ≤ vec_capacity l.replies;
  servable : All g.S.Serve.can_serve (into_iter_items l.command-iterator);
  run : Run g.S.Serve.meaning l.yielded l.initial.table l.replies.items l.table;
}
