use Rattle.frame_core.specs.Written.{written}
use Rattle.client_core.specs.Requests.{subscribe_frame}
use Rattle.client_core.proofs.Showing.{subscribed}
use Rattle.client_core.proofs.listening.hear_messages.Goals as goal

pub returns-in-Ok : goal.returns-in-Ok
returns-in-Ok g c =
    let talk = g.L.Peer.talk in
    let shown = c.hear_until_all in
    subscribed shown.result c.args.plan.now (written (subscribe_frame c.args.plan.now)) shown.new.reader.rest (talk c.args.peer.now) (talk c.subscribe.new.peer) (talk shown.new.peer) c.in-Ok.ensures shown.ensures
