use Rattle.std.proofs.Common.{rules}
use Rattle.command_line.proofs.program.refusal.Goals as goal

pub returns-in-OutOfMemory : goal.returns-in-OutOfMemory
returns-in-OutOfMemory c = search rules
