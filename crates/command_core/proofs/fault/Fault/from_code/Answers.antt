use Rattle.std.proofs.Common.{rules}
use Rattle.command_core.proofs.fault.Fault.from_code.Goals as goal

pub returns-in-20 : goal.returns-in-20
returns-in-20 c = search rules
