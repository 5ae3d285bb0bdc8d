use Rattle.std.proofs.Common.{◌-◌, length, subst}
use Rattle.std.specs.List.{IsAmong}
use Rattle.std.specs.Map.{values_of}
use Rattle.std.specs.Prelude.{IfSome}
use Rattle.maps.proofs.Members.{some_among}
use Rattle.maps.proofs.entries.Entries.last.Goals as goal

pub returns-clause-member : goal.returns-clause-member
returns-clause-member g c =
    let es = c.self.inside.entries in
    subst (λ es. IfSome c.last.result (λ e. IsAmong (values_of es) e.now.1)) c.self.view_is
    (some_among es (length es - 1) c.last.result c.last.ensures)
