use Rattle.std.specs.Prelude.{◌&&◌, List, [], ℕ, Bool, fold, is_some, map, not, if◌then◌else◌}
use Rattle.std.specs.List.{flat_map}
use Rattle.std.specs.Str.{bytes_eq}
use Rattle.command_core.specs.Destinations.{is_queue}
use Rattle.line_core.specs.declared.message.Message.{Message}
use Rattle.line_core.specs.Lines.{inserted}
use Rattle.broker_state.specs.declared.subscription.Subscription.{Subscription}
use Rattle.broker_state.specs.Names.{Name, name_cmp, text_cmp}
use Rattle.broker_state.specs.Operations.{uses}
use Rattle.broker_state.specs.States.{State}
use Rattle.broker_state.specs.Waiting.{line_at}

-- the subscription takes its messages from that queue
abbrev pub takes_from : List ℕ → Subscription → Bool
takes_from to sub = not (is_some sub.durable) && is_queue sub.destination && bytes_eq to sub.destination

-- what such subscriptions have not acknowledged
abbrev pub unacknowledged_by : (Subscription → Bool) → List Subscription → List Message
unacknowledged_by such subs =
    flat_map (λ (sub : Subscription). if such sub then map (λ (delivery : ℕ × Message). delivery.1) sub.unacknowledged else []) subs

-- a line with more messages, each at its place by number
abbrev pub with_all : List Message → List Message → List Message
with_all line messages = fold (λ more m. inserted m more) line messages

-- What a queue keeps: the messages that wait in its line and those of it that are not acknowledged, by number.
abbrev pub kept_in_queue : List ℕ → State → List Message
kept_in_queue to s = with_all (line_at text_cmp to s.shared.queues) (unacknowledged_by (takes_from to) s.subscriptions)

-- what is kept under a durable name, in the same way
abbrev pub kept_under : Name → State → List Message
kept_under name s = with_all (line_at name_cmp name s.shared.names) (unacknowledged_by (uses name) s.subscriptions)
