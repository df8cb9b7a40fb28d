use Rattle.std.proofs.Common.{rules}
use Rattle.command_core.proofs.fault.fault_text.Goals as goal

pub returns-in-UndefinedEscape : goal.returns-in-UndefinedEscape
returns-in-UndefinedEscape c = search rules
