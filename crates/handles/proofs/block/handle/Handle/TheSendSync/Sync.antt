use denote.RattleType.{RattleType}
use denote.Param.Send.{IsSend, IsSync}
use Rattle.handles.specs.contracts.block.handle.Handle.{the_row}
use Rattle.handles.proofs.Owners.Sent.{handle-Sync}

pub sync : (T : RattleType) → IsSend T → IsSync T → IsSync (the_row T)
sync = handle-Sync
