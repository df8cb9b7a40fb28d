use Rattle.std.proofs.Common.{rules}
use Rattle.command_core.proofs.encoding.mode_byte.Goals as goal

pub returns-in-Client : goal.returns-in-Client
returns-in-Client c = search rules
