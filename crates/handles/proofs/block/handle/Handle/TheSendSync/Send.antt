use denote.RattleType.{RattleType}
use denote.Param.Send.{IsSend, IsSync}
use Rattle.handles.specs.contracts.block.handle.Handle.{the_row}
use Rattle.handles.proofs.Owners.Sent.{handle-Send}

pub send : (T : RattleType) → IsSend T → IsSync T → IsSend (the_row T)
send = handle-Send
