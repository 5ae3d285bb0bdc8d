use Rattle.std.proofs.Common.{ap}
use Rattle.std.specs.Map.{keys_of}
use Rattle.maps.proofs.entries.Entries.keys.Goals as goal

pub returns : goal.returns
returns g c = ap (λ es. keys_of es) c.iter.ensures.entries
