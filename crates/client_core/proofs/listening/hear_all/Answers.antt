use Rattle.client_core.proofs.Showing.{listens}
use Rattle.client_core.proofs.listening.hear_all.Goals as goal

pub returns-in-Ok : goal.returns-in-Ok
returns-in-Ok g c =
    let talk = g.L.Peer.talk in
    let heard = c.hear_messages.new in
    listens c.leave_after.result c.args.plan.now heard.reader.rest (talk c.args.peer.now) (talk heard.peer) (talk c.leave_after.new.peer) c.in-Ok.ensures c.leave_after.ensures
