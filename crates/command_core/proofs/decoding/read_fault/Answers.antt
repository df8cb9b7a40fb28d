use Rattle.command_core.proofs.RecordOperations.{no_fault_read}
use Rattle.command_core.proofs.decoding.read_fault.Goals as goal

pub returns-in-None : goal.returns-in-None
returns-in-None c = no_fault_read c.args.bytes.now c.in_ok-code.code c.in_ok-code.rest.now c.in_ok-code.ensures c.in-None.ensures
