use Rattle.client_core.proofs.Showing.{all_shown, goes_on, nothing_shown}
use Rattle.client_core.proofs.listening.hear_until_all.Goals as goal

pub loop-piece-init : goal.loop-piece-init
loop-piece-init g c = nothing_shown c.args.plan.now (g.L.Peer.talk c.args.peer.now) c.args.reader.now.rest c.requires

pub returns-then-left-eq0 : goal.returns-then-left-eq0
returns-then-left-eq0 g c =
    let talk = g.L.Peer.talk in
    all_shown c.args.plan.now c.loop-piece.left (talk c.args.peer.now) (talk c.loop-piece.peer) c.loop-piece.reader.rest c.if-left-eq0.true c.loop-piece.invariant

pub loop-piece-preserved : goal.loop-piece-preserved
loop-piece-preserved g c =
    let talk = g.L.Peer.talk in
    let heard = c.hear_some.new in
    goes_on c.args.plan.now c.loop-piece.left c.in_ok-after.after (talk c.args.peer.now) (talk c.loop-piece.peer) (talk heard.peer) c.loop-piece.reader.rest heard.reader.rest
    c.if-left-eq0.false c.loop-piece.invariant c.in_ok-after.ensures
