use Rattle.std.proofs.Common.{subst}
use Rattle.std.specs.List.{IsAmong}
use Rattle.std.specs.Map.{values_of}
use Rattle.std.specs.Prelude.{IfSome}
use Rattle.maps.proofs.Members.{some_among}
use Rattle.maps.proofs.entries.Entries.nth.Goals as goal

pub returns-clause-member : goal.returns-clause-member
returns-clause-member g c =
    subst (λ es. IfSome c.get.result (λ e. IsAmong (values_of es) e.now.1)) c.self.view_is
    (some_among c.self.inside.entries c.args.index c.get.result c.get.ensures)
