use Rattle.std.proofs.Common.{◌≡◌, ◌∙◌, IfOk, subst}
use Rattle.frame_core.specs.Written.{written}
use Rattle.client_core.specs.Requests.{asked_frame}
use Rattle.client_core.proofs.requests.line_text.Goals as goal

pub returns-in-Ok-clause-ok : goal.returns-in-Ok-clause-ok
returns-in-Ok-clause-ok c =
    subst (λ receipt. IfOk c.asked_text-text.result (λ text. text.items ≡ written (asked_frame receipt c.args.message.now)))
    (c.as_str.ensures.value ∙ c.in-Ok.ensures.ok) c.asked_text-text.ensures.ok
