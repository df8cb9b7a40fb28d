use Rattle.client_core.proofs.Showing.{opened}
use Rattle.client_core.proofs.listening.listen.Goals as goal

pub returns-in-Ok : goal.returns-in-Ok
returns-in-Ok g c =
    let talk = g.L.Peer.talk in
    opened c.listen_in.result c.args.host.now c.args.client c.args.plan.now (talk c.args.peer.now) (talk c.open.new.peer) (talk c.listen_in.new.peer) c.in-Ok.ensures.ok c.listen_in.ensures
