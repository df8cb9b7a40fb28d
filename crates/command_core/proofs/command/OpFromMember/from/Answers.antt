use Rattle.std.proofs.Common.{rules}
use Rattle.command_core.proofs.command.OpFromMember.from.Goals as goal

pub returns-in-Nack : goal.returns-in-Nack
returns-in-Nack c = search rules
