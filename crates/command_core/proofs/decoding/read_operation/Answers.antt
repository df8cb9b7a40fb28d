use Rattle.command_core.proofs.RecordOperations.{note_read}
use Rattle.command_core.proofs.decoding.read_operation.Goals as goal

pub returns-in-8 : goal.returns-in-8
returns-in-8 c = note_read c.args.bytes.now c.in_ok-kind.rest.now c.in_ok-kind.kind c.in_ok-kind.ensures c.in-8.is
