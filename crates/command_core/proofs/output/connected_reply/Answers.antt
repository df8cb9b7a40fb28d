use Rattle.std.proofs.Common.{◌≡◌, rules, arith, sym, subst}
use Rattle.frame_core.specs.declared.frame.Verb.TheVariants.{Connected}
use Rattle.frame_core.specs.Writable.{Writable}
use Rattle.command_core.specs.Replies.{connected}
use Rattle.command_core.proofs.WritableReplies.{connected_writable}
use Rattle.command_core.proofs.output.connected_reply.Goals as goal

pub returns-clause-form : goal.returns-clause-form
returns-clause-form c =
    let is : record { verb = Connected; headers = c.new.result; body = c.new-3.result } ≡ connected c.args.session = search rules in
    subst Writable (sym is) (connected_writable c.args.session (omega arith))
