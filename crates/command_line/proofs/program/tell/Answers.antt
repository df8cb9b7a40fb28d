use Rattle.std.proofs.Common.{rules}
use Rattle.command_line.proofs.program.tell.Goals as goal

pub returns-in-Script : goal.returns-in-Script
returns-in-Script g c = search rules
