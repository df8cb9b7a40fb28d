use Rattle.std.proofs.Common.{map, subst}
use Rattle.ws_core.specs.Handshakes.{IsAnswerTo}
use Rattle.ws_core.proofs.handshake.hear_head.Goals as goal

pub returns-in-Some-clause-answered : goal.returns-in-Some-clause-answered
returns-in-Some-clause-answered g c =
    subst (λ bytes. IsAnswerTo (map (λ origin. origin.items) c.args.origins.now) bytes c.in-Some.answer) c.as_slice.ensures.value c.in-Some.ensures.answered
