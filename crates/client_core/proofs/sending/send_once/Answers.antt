use Rattle.std.proofs.Common.{None}
use Rattle.frame_core.specs.Written.{written}
use Rattle.client_core.specs.Requests.{connect_frame, send_frame}
use Rattle.client_core.specs.declared.probe.Probe.TheVariants.{Connect, Send}
use Rattle.client_core.proofs.Turns.{has_reason, both}
use Rattle.client_core.proofs.sending.send_once.Goals as goal

pub returns-in-Ok-send-clause-ok : goal.returns-in-Ok-send-clause-ok
returns-in-Ok-send-clause-ok g c =
    let talk = g.P.Peer.talk in
    both (Connect, written (connect_frame c.args.host.now None)) (Send, written (send_frame c.args.message.now)) (talk c.args.peer.now) (talk c.open.new.peer) (talk c.send.new.peer) (talk c.part.new.peer)
    c.in-Ok.ensures.ok c.in-Ok-send.ensures.ok

pub returns-in-Err-send-clause-fault : goal.returns-in-Err-send-clause-fault
returns-in-Err-send-clause-fault g c =
    has_reason Send (written (send_frame c.args.message.now)) c.in-Err-send.fault (g.P.Peer.talk c.open.new.peer) (g.P.Peer.talk c.send.new.peer) c.in-Err-send.ensures.fault

pub returns-in-Err-clause-fault : goal.returns-in-Err-clause-fault
returns-in-Err-clause-fault g c =
    has_reason Connect (written (connect_frame c.args.host.now None)) c.in-Err.fault (g.P.Peer.talk c.args.peer.now) (g.P.Peer.talk c.open.new.peer) c.in-Err.ensures.fault
