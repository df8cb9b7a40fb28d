use Rattle.client_core.proofs.Turns.{answers_ok}
use Rattle.client_core.proofs.probe.answer.Goals as goal

pub returns-in-Ok-clause-ok : goal.returns-in-Ok-clause-ok
returns-in-Ok-clause-ok g c =
    let talk = g.P.Peer.talk in
    answers_ok c.hear_answer-answered.result c.args.probe c.args.frame.now (talk c.args.peer.now) (talk c.say.new.self) (talk c.hear_answer-answered.new.peer) c.in-Ok.ensures.told c.hear_answer-answered.ensures.ok
