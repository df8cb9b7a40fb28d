use Rattle.client_core.proofs.Doing.{shows}
use Rattle.client_core.proofs.listening.show.Goals as goal

pub returns : goal.returns
returns g c =
    let deed = c.in_ok-deed.deed in
    shows c.perform-done.result c.args.plan.now c.args.frame.now deed.text.items deed.ack (g.L.Peer.talk c.args.peer.now) (g.L.Peer.talk c.perform-done.new.peer)
    c.in_ok-deed.ensures.message c.in_ok-deed.ensures.shown c.in_ok-deed.ensures.settled c.perform-done.ensures
