use Rattle.std.proofs.Common.{rules}
use Rattle.command_core.proofs.decoding.is_of_queue.Goals as goal

pub returns-then-is_some : goal.returns-then-is_some
returns-then-is_some c = search rules
