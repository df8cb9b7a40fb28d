use Rattle.std.proofs.Common.{◌≡◌, rules, subst, sym}
use Rattle.std.specs.Prelude.{IfOk}
use Rattle.frame_core.specs.declared.frame.Frame.{Frame}
use Rattle.frame_core.specs.Written.{written}
use Rattle.command_core.specs.Deliveries.{message_of}
use Rattle.command_core.proofs.output.Out.write.Goals as goal

pub returns-in-Message-clause-bytes : goal.returns-in-Message-clause-bytes
returns-in-Message-clause-bytes c =
    let same : c.args.self.now.frame ≡ message_of c.in-Message.delivery = search rules in
    subst (λ (f : Frame). IfOk c.write.result (λ it. it.bytes ≡ written f)) (sym same) c.write.ensures.bytes
