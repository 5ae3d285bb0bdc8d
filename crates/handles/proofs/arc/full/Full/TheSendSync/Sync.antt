use denote.Param.Send.{IsSync}
use Rattle.handles.specs.contracts.arc.full.Full.{the_row}
use Rattle.handles.proofs.Owners.Sent.{full-Sync}

pub sync : IsSync the_row
sync = full-Sync
