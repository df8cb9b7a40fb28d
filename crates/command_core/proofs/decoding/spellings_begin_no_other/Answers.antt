use Rattle.command_core.proofs.RecordCommands.{begins_no_other}
use Rattle.command_core.proofs.decoding.spellings_begin_no_other.Goals as goal

pub returns : goal.returns
returns c = begins_no_other
