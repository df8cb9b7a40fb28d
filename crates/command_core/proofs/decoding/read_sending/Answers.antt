use Rattle.std.proofs.Common.{arith}
use Rattle.command_core.proofs.Walks.{bytes_are}
use Rattle.command_core.proofs.RecordMessages.{headers_formed}
use Rattle.command_core.proofs.decoding.read_sending.Goals as goal

pub new-requires-clause-few : goal.new-requires-clause-few
new-requires-clause-few c = (headers_formed c.args.bytes.now _ _ _ _ (bytes_are c.args.bytes.now (λ i. omega (arith, c.type_inv.bytes i))) c.in_ok-destination.ensures c.in_ok-headers.ensures).0

pub new-requires-clause-each : goal.new-requires-clause-each
new-requires-clause-each c = (headers_formed c.args.bytes.now _ _ _ _ (bytes_are c.args.bytes.now (λ i. omega (arith, c.type_inv.bytes i))) c.in_ok-destination.ensures c.in_ok-headers.ensures).1
