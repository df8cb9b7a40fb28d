use Rattle.std.proofs.Common.{rules}
use Rattle.snapshot_core.proofs.writing.put_line.Goals as goal

pub returns-in_ok-insert : goal.returns-in_ok-insert
returns-in_ok-insert c = search rules
