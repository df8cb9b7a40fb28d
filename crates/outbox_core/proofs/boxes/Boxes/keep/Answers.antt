use Rattle.std.proofs.Common.{rules}
use Rattle.outbox_core.proofs.boxes.Boxes.keep.Goals as goal

pub returns-clause-kept : goal.returns-clause-kept
returns-clause-kept g c = search rules
