use Rattle.std.proofs.Common.{rules}
use Rattle.outbox_core.proofs.sender.outbox.Goals as goal

pub returns-clause-one_box : goal.returns-clause-one_box
returns-clause-one_box g c = search rules
