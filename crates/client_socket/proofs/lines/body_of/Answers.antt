use Rattle.std.proofs.Common.{arith}
use Rattle.client_socket.proofs.Bodies.{all_of_it}
use Rattle.client_socket.proofs.lines.body_of.Goals as goal

pub returns-in-Ok-2-clause-whole : goal.returns-in-Ok-2-clause-whole
returns-in-Ok-2-clause-whole g c =
    all_of_it g.I.Read.remaining c.take.result.inner c.args.input c.take.ensures.inner c.take.result.limit c.take.ensures.limit c.new-body.result.items c.read_to_end.new.buf.items c.new-body.ensures.items
    c.in-Ok-2.ensures.bytes (omega (arith, c.if-len-gt-BODY_BYTES.false, c.len.ensures))
