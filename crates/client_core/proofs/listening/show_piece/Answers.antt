use Rattle.std.proofs.Common.{◌++◌}
use Rattle.client_core.proofs.Showing.{reads_shown}
use Rattle.client_core.proofs.listening.show_piece.Goals as goal

pub returns-in-Ok : goal.returns-in-Ok
returns-in-Ok g c =
    let talk = g.L.Peer.talk in
    let reader = c.feed.new.self in
    let fed = c.in-Ok.fed in
    let shown = c.show_fed-after in
    reads_shown shown.result c.args.plan.now (c.args.reader.now.rest ++ c.args.piece.now) reader.rest reader.failed fed.frames.items fed.fault c.args.left (talk c.args.peer.now) (talk shown.new.peer)
    c.in-Ok.ensures.fed shown.ensures.sound shown.ensures.shown
