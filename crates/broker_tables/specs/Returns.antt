use Rattle.std.specs.Prelude.{◌≡◌, ◌≤◌, ◌+◌, List, ℕ, Option, None, Some, drop, if◌then◌else◌}
use Rattle.std.specs.List.{sum_by}
use Rattle.line_core.specs.declared.message.Message.{Message}
use Rattle.command_core.specs.Destinations.{is_queue}
use Rattle.broker_state.specs.Names.{Name, name_cmp, text_cmp}
use Rattle.broker_state.specs.declared.limits.Held.{Held}
use Rattle.broker_state.specs.declared.subscription.Subscription.{Subscription}
use Rattle.broker_state.specs.States.{bytes, one, weight_of_subscription}
use Rattle.broker_state.specs.Waiting.{Shared, weight_of_lines, weight_of_shared, with_deliveries}

-- the lines that stay once the messages of deliveries stand there again: in that of the durable name, or else of the queue
abbrev pub returned_to : Shared → Option Name → List ℕ → List (ℕ × Message) → Shared
returned_to shared (Some name) to deliveries = record shared { names = with_deliveries name_cmp name deliveries shared.names }
returned_to shared None to deliveries = if is_queue to then record shared { queues = with_deliveries text_cmp to deliveries shared.queues } else shared

-- whatever a message weighs: the lines weigh less by the first message of that one
abbrev pub LoseFirst : {K : Type 0} → List (K × List Message) → List (K × List Message) → List Message → Type 0
LoseFirst old new line = (weight : Message → ℕ) → weight_of_lines weight new + sum_by weight line ≡ weight_of_lines weight old + sum_by weight (drop 1 line)

-- whatever a message weighs: the lines that stay and a subscription's own weigh less by the first message of that line
abbrev pub HandFirst : Shared → Subscription → Shared → Subscription → List Message → Type 0
HandFirst shared sub shared_after sub_after line = (weight : Message → ℕ)
    → weight_of_shared weight shared_after + sum_by weight sub_after.line + sum_by weight line
    ≡ weight_of_shared weight shared + sum_by weight sub.line + sum_by weight (drop 1 line)

-- What counts as held is at least what stands in those lines and in a subscription together.
pub record HoldsBoth (held : Held) (shared : Shared) (sub : Subscription) : Type 0 where
  pub within : held.bytes ≤ 16777216
  pub messages : weight_of_shared one shared + weight_of_subscription one sub ≤ held.messages
  pub bytes : weight_of_shared bytes shared + weight_of_subscription bytes sub ≤ held.bytes

-- A subscription has ended, and what of it stands in no line is held no more.
pub record LetsGo (held held_after : Held) (shared shared_after : Shared) (sub : Subscription) : Type 0 where
  pub messages : held_after.messages + weight_of_shared one shared + weight_of_subscription one sub ≡ held.messages + weight_of_shared one shared_after
  pub bytes : held_after.bytes + weight_of_shared bytes shared + weight_of_subscription bytes sub ≡ held.bytes + weight_of_shared bytes shared_after
  pub fewer : held_after.messages ≤ held.messages
  pub lighter : held_after.bytes ≤ held.bytes

-- whatever a message weighs: the lines and what is given weigh together what the lines and the deliveries weighed
abbrev pub KeepsWeight : Shared → List (ℕ × Message) → Shared → List (ℕ × Message) → Type 0
KeepsWeight old deliveries new gone =
    (weight : Message → ℕ) → weight_of_shared weight new + sum_by (λ delivery. weight delivery.1) gone ≡ weight_of_shared weight old + sum_by (λ delivery. weight delivery.1) deliveries

-- What counts as held is what stands in those lines and in subscriptions together, within the limits.
pub record HoldAll (held : Held) (shared : Shared) (subs : List Subscription) : Type 0 where
  pub few : held.messages ≤ 4096
  pub small : held.bytes ≤ 16777216
  pub messages : held.messages ≡ weight_of_shared one shared + sum_by (weight_of_subscription one) subs
  pub bytes : held.bytes ≡ weight_of_shared bytes shared + sum_by (weight_of_subscription bytes) subs
