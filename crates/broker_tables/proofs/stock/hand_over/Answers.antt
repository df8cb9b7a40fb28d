use Rattle.std.proofs.Common.{rules, ◌≡◌, ◌∷◌, ◌∙◌, [], ap}
use Rattle.line_core.specs.declared.message.Message.{Message}
use Rattle.broker_state.specs.declared.subscription.Subscription.{Subscription}
use Rattle.broker_state.specs.HandOut.{message_out}
use Rattle.broker_state.specs.Lists.{changed}
use Rattle.waiting_order.specs.Keeping.{kept_by}
use Rattle.broker_tables.specs.Answers.{with_outs}
use Rattle.broker_tables.proofs.Waiters.{both_ok, on_ok}
use Rattle.broker_tables.proofs.stock.hand_over.Goals as goal

pub returns-clause-answers : goal.returns-clause-answers
returns-clause-answers c =
    let earlier = c.args.answers.now in
    on_ok c.keep-2.result _ (λ at s there. c.in_ok-reply.ensures ∙ ap (λ (m : Message). with_outs (message_out c.args.number c.get.result.now c.args.delivery m ∷ []) earlier) c.in_ok-message.ensures
    ∙ ap (λ (x : Subscription). with_outs (message_out c.args.number x c.args.delivery c.args.message ∷ []) earlier) (c.get.ensures.sub at s there))

pub returns-clause-kept : goal.returns-clause-kept
returns-clause-kept c =
    let o = c.args.order.now in
    let same : c.in_ok-copy.copy ≡ c.args.message = search rules in
    both_ok c.keep-2.result _ _ _ (λ kept _ at s there. kept at s there ∙ ap (λ (m : Message). record o { all = changed at (kept_by c.args.delivery m) o.all }) same) c.keep-2.ensures.ok c.keep-2.ensures.ok
