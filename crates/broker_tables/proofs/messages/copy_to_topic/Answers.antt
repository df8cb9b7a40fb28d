use Rattle.std.proofs.Common.{◌≡◌, ◌∙◌, List, false, ap, map, sym}
use Rattle.std.proofs.lemmas.Result.{on_ok_weaker}
use Rattle.command_core.specs.Destinations.{is_queue}
use Rattle.line_core.specs.declared.message.Message.{Message}
use Rattle.broker_state.specs.declared.subscription.Subscription.{Subscription}
use Rattle.broker_state.specs.Operations.{copied, copied_to_names, fanned_out}
use Rattle.broker_state.specs.States.{State}
use Rattle.broker_state.specs.Waiting.{Shared}
use Rattle.broker_state.proofs.Sendings.{fanned_out_by}
use Rattle.waiting_order.specs.Waiting.{subs_of}
use Rattle.broker_tables.proofs.messages.copy_to_topic.Goals as goal

fanned_out_topic : (s : State) (m : Message) (shared : Shared) (subs : List Subscription) → is_queue m.sending.destination ≡ false → shared ≡ record s.shared { names = copied_to_names m s.durables s.shared.names } → subs ≡ map (copied m) s.subscriptions → record s { shared = shared; subscriptions = subs } ≡ fanned_out s m
fanned_out_topic s m shared subs topic names own =
    ap (λ (x : Shared). record s { shared = x; subscriptions = subs }) names
    ∙ ap (λ (x : List Subscription). record s { shared = record s.shared { names = copied_to_names m s.durables s.shared.names }; subscriptions = x }) own
    ∙ sym (ap (fanned_out_by s m) topic)

pub returns-clause-fanned : goal.returns-clause-fanned
returns-clause-fanned c =
    on_ok_weaker c.copy_to_listeners.result (λ own s. sym (fanned_out_topic (record s { durables = c.args.durables.now; shared = c.args.shared.now; subscriptions = subs_of c.args.order.now.all }) c.args.message.now c.copy_to_names.new.shared (subs_of c.copy_to_listeners.new.order.all) c.requires.topic c.in_ok-copy_to_names.ensures own)) c.copy_to_listeners.ensures.copied
