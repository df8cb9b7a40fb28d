use Rattle.std.proofs.Common.{◌≡◌, false, subst, sym}
use Rattle.ws_core.specs.Greetings.{Tells, shuts_out}
use Rattle.ws_core.specs.Handshakes.{IsAccepted, is_head, response_to}
use Rattle.ws_core.proofs.Heads.{accepted}
use Rattle.ws_core.proofs.handshake.done.Goals as goal

pub returns-in-Accept : goal.returns-in-Accept
returns-in-Accept g c client head tells =
    let answered = subst (λ answer. Tells g.S.Read.remaining g.S.Write.contents client head c.args.stream answer (response_to (is_head head) answer)) c.in-Accept.is tells in
    let whole = subst (λ stream. (given : IsAccepted g.S.Read.remaining g.S.Write.contents client.origins client.opening stream) × (shuts_out client.vacancy given.bytes ≡ false)) (sym c.new.ensures.stream)
    (accepted g.S.Read.remaining g.S.Write.contents client head c.args.stream c.in-Accept.field-0 c.in-Accept.field-1 answered) in
    (c.new.ensures.ready, whole.0, whole.1)
