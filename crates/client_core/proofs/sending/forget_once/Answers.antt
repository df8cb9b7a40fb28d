use Rattle.std.proofs.Common.{Some}
use Rattle.frame_core.specs.Written.{written}
use Rattle.client_core.specs.Requests.{connect_frame, forget_frame}
use Rattle.client_core.specs.declared.probe.Probe.TheVariants.{Connect, Send}
use Rattle.client_core.proofs.Turns.{has_reason, both}
use Rattle.client_core.proofs.sending.forget_once.Goals as goal

pub returns-in-Ok-forget-clause-ok : goal.returns-in-Ok-forget-clause-ok
returns-in-Ok-forget-clause-ok g c =
    let talk = g.P.Peer.talk in
    both (Connect, written (connect_frame c.args.host.now (Some c.args.client))) (Send, written (forget_frame c.args.name.now)) (talk c.args.peer.now) (talk c.open.new.peer) (talk c.forget.new.peer) (talk c.part.new.peer)
    c.in-Ok.ensures.ok c.in-Ok-forget.ensures.ok

pub returns-in-Err-forget-clause-fault : goal.returns-in-Err-forget-clause-fault
returns-in-Err-forget-clause-fault g c =
    has_reason Send (written (forget_frame c.args.name.now)) c.in-Err-forget.fault (g.P.Peer.talk c.open.new.peer) (g.P.Peer.talk c.forget.new.peer) c.in-Err-forget.ensures.fault

pub returns-in-Err-clause-fault : goal.returns-in-Err-clause-fault
returns-in-Err-clause-fault g c =
    has_reason Connect (written (connect_frame c.args.host.now (Some c.args.client))) c.in-Err.fault (g.P.Peer.talk c.args.peer.now) (g.P.Peer.talk c.open.new.peer) c.in-Err.ensures.fault
