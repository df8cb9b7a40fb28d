use Rattle.command_line.proofs.Naming.{given_more}
use Rattle.command_line.proofs.calling.headers_in.Goals as goal

pub loop-text-preserved : goal.loop-text-preserved
loop-text-preserved c =
    given_more c.loop-text.headers.items c.push.new.self.items c.in-Ok.header c.in-Ok-push.ensures.items c.loop-text.invariant c.in-Ok.ensures.ok
