use Rattle.std.proofs.Common.{rules}
use Rattle.uses.proofs.JsonSeen.{map_made}
use Rattle.uses.proofs.shared_json.Value.+from_plain.Goals as goal

pub returns-in_ok-from_items-in-Object : goal.returns-in_ok-from_items-in-Object
returns-in_ok-from_items-in-Object t c =
    let made = c.in_ok-from_items-in-Object in
    rw c.in-Object.is (map_made c.loop-name.shared.items made.field-0 c.in-Object.members
    c.into_iter-name-iterator.ensures.into_iter_gives.5 (search rules) made.ensures)
