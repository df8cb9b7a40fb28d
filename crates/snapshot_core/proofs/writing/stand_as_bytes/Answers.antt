use Rattle.std.proofs.Common.{arith}
use Rattle.command_core.proofs.Walks.{bytes_are}
use Rattle.snapshot_core.proofs.writing.stand_as_bytes.Goals as goal

pub returns : goal.returns
returns c = bytes_are c.args.bytes.now (λ i. omega (arith, c.type_inv.bytes i))
