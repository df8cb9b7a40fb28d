use Rattle.std.proofs.Common.{rules}
use Rattle.command_core.proofs.destination.is_short.Goals as goal

pub returns : goal.returns
returns c = search rules
