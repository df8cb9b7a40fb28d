use Rattle.std.proofs.Common.{◌≡◌, List, ℕ, IfOk, subst}
use Rattle.frame_core.specs.Written.{written}
use Rattle.client_core.specs.Moving.{sent_frame}
use Rattle.client_core.proofs.moving.moved_text.Goals as goal

pub returns-clause-ok : goal.returns-clause-ok
returns-clause-ok c =
    let more : List ℕ × List ℕ = (c.args.name.now, c.args.value.now) in
    subst (λ body. IfOk c.sent_text-text.result (λ text. text.items ≡ written (sent_frame c.args.to.now more c.args.message.now.headers body))) c.as_slice-body.ensures
    (subst (λ given. IfOk c.sent_text-text.result (λ text. text.items ≡ written (sent_frame c.args.to.now more given c.as_slice-body.result.now))) c.as_slice-headers.ensures
    c.sent_text-text.ensures.ok)
