use Rattle.std.proofs.Common.{◌≡◌, ◌∙◌, IfOk, ap, flat_map, subst}
use Rattle.std.specs.Fmt.{decimal}
use Rattle.frame_core.specs.Written.{written}
use Rattle.client_core.specs.Moving.{transaction_frames}
use Rattle.client_core.proofs.moving.numbered_transaction.Goals as goal

pub returns : goal.returns
returns c =
    subst (λ number. IfOk c.transaction_text-text.result (λ text. text.items ≡ flat_map written (transaction_frames number c.args.route.now.destination.now c.args.message.now c.args.delivery.now)))
    (c.as_str.ensures ∙ c.in_ok-number.ensures ∙ ap decimal c.in_ok-next.ensures) c.transaction_text-text.ensures.ok
