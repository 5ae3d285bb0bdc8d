use Rattle.std.proofs.Common.{◌≡◌, ◌+◌, ◌++◌, vec_len}
use Rattle.std.specs.Vec.Iter.{into_iter_items, into_iter_len}
use Rattle.cow_table.proofs.paging.next_page.Given as goal

abbrev pub invariant-loop : goal.invariant-loop
invariant-loop g l =
    (into_iter_items l.initial.rest ≡ l.page.items ++ into_iter_items l.rest)
    × (vec_len l.page ≡ l.counter)
    × (l.counter + into_iter_len l.rest ≡ into_iter_len l.initial.rest)
