use Rattle.std.proofs.Common.{arith}
use Rattle.command_core.proofs.Walks.{bytes_are}
use Rattle.command_core.proofs.encoding.put_counted.Goals as goal

pub returns-clause-form : goal.returns-clause-form
returns-clause-form c = bytes_are c.args.bytes.now (λ i. omega (arith, c.type_inv.bytes i))
