use denote.Param.Send.{IsSend}
use Rattle.handles.specs.contracts.arc.full.Full.{the_row}
use Rattle.handles.proofs.Owners.Sent.{full-Send}

pub send : IsSend the_row
send = full-Send
