use Rattle.snapshot_core.proofs.SnapshotForms.{begins_no_other}
use Rattle.snapshot_core.proofs.laws.snapshots_begin_no_other.Goals as goal

pub returns : goal.returns
returns c = begins_no_other
