use Rattle.client_core.proofs.Showing.{heard_shown}
use Rattle.client_core.proofs.listening.hear_some.Goals as goal

pub returns-in-Ok : goal.returns-in-Ok
returns-in-Ok g c =
    let talk = g.L.Peer.talk in
    let shown = c.show_piece-after in
    heard_shown shown.result c.args.plan.now c.args.reader.now.rest shown.new.reader.rest c.in-Ok.piece.items c.as_slice.result.now c.args.left (talk c.args.peer.now) (talk c.wait.new.self) (talk shown.new.peer)
    c.as_slice.ensures.value c.in-Ok.ensures.told shown.ensures
