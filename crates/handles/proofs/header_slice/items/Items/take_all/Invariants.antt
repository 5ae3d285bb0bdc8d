use Rattle.std.proofs.Common.{◌≡◌, ◌≤◌, ◌-◌, length, map, Ok}
use Rattle.std.specs.Iterator.{Yields}
use Rattle.handles.proofs.header_slice.items.Items.take_all.Given as goal

abbrev pub invariant-loop-source : goal.invariant-loop-source
invariant-loop-source g l =
    g.I.Iterator.can_next l.source
    × Yields g.I.Iterator.next_gives l.initial.source (map Ok l.self.items) l.source
    × (length l.self.items ≤ l.number)
    × (l.self.room ≡ l.number)

abbrev pub decreases-loop-source : goal.decreases-loop-source
decreases-loop-source g l = l.number - length l.self.items
