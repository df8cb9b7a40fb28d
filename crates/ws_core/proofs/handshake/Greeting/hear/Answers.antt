use Rattle.std.proofs.Common.{◌≡◌, ◌∙◌, ap, map, rules, sym}
use Rattle.ws_core.specs.Greetings.{answer_at, shuts_out}
use Rattle.ws_core.specs.Handshakes.{is_head, response_to}
use Rattle.ws_core.proofs.Telling.{begins}
use Rattle.ws_core.proofs.handshake.Greeting.hear.Goals as goal

pub invariant_of-result : goal.invariant_of-result
invariant_of-result g c =
    let said = c.in-Ok.ensures.said in
    let head = c.hear_head.new.head.items in
    let asked : c.is_head.result ≡ is_head head = search rules in
    let shut : c.shuts_out.result ≡ shuts_out c.self.inside.vacancy head = search rules in
    begins g.S.Read.remaining g.S.Write.contents _ c.self.inside.head.items head c.self.inside.stream c.hear_head.new.stream c.self.inside.saying c.in-Ok.saying
    (map (λ origin. origin.items) c.as_slice.result.now) c.in-Ok-Some.field-0 c.in-Ok-Some.answer
    c.self.invariant (sym c.is_some.ensures ∙ c.if-is_some.false) c.in-Ok-Some.ensures.reads c.in-Ok-Some.ensures.answered c.in-Ok-Some.field-0-is (search rules)
    (said.0 ∙ (c.at-answer.ensures ∙ ap (λ shut. answer_at shut c.in-Ok-Some.answer) shut)) said.1 (c.in-Ok.ensures.response ∙ (ap (λ is. response_to is c.at-answer.result) asked ∙ ap (response_to (is_head head)) (sym said.0)))
