use Rattle.engine_core.proofs.SnapshotSizes.{room_for, snapshot_most}
use Rattle.engine_core.proofs.hub.snapshots_leave_room.Goals as goal

pub returns : goal.returns
returns c = record { length = snapshot_most; room = room_for }
