use Rattle.std.specs.Prelude.{◌+◌, ◌||◌, List, [], ℕ, Bool, Option, Some, None, fold, is_some, not, unwrap_or, if◌then◌else◌}
use Rattle.std.specs.BTreeMap.{insert_entry, is_at}
use Rattle.std.specs.List.{sum_by}
use Rattle.std.specs.Map.{lookup, remove_entry, values_of}
use Rattle.std.specs.declared.cmp.Ordering.{Ordering}
use Rattle.command_core.specs.Destinations.{is_queue}
use Rattle.line_core.specs.declared.message.Message.{Message}
use Rattle.line_core.specs.Lines.{inserted}
use Rattle.broker_state.specs.declared.subscription.Subscription.{Subscription}
use Rattle.broker_state.specs.Lists.{is_none}
use Rattle.broker_state.specs.Names.{Name, name_cmp, text_cmp}

-- Where messages wait: in lines under a key, those with messages alone, by rising key.
abbrev pub Lines : Type 0 → Type 0
Lines K = List (K × List Message)

-- the line under a key, empty if there is none
abbrev pub line_at : {K : Type 0} → (K → K → Ordering) → K → Lines K → List Message
line_at cmp key lines = unwrap_or (lookup (is_at (cmp key)) lines) []

-- the lines with another one under that key; one without messages is not among them
abbrev pub with_line : {K : Type 0} → (K → K → Ordering) → K → List Message → Lines K → Lines K
with_line cmp key line lines =
    let others = remove_entry (is_at (cmp key)) lines in
    if is_none line then others else insert_entry cmp others key line

-- the lines with one more message in that one, at its place by number
abbrev pub with_message : {K : Type 0} → (K → K → Ordering) → K → Message → Lines K → Lines K
with_message cmp key m lines = with_line cmp key (inserted m (line_at cmp key lines)) lines

-- the lines with the messages of deliveries in that one again
abbrev pub with_deliveries : {K : Type 0} → (K → K → Ordering) → K → List (ℕ × Message) → Lines K → Lines K
with_deliveries cmp key deliveries lines = fold (λ more delivery. with_message cmp key delivery.1 more) lines deliveries

-- what the messages of lines weigh together
abbrev pub weight_of_lines : {K : Type 0} → (Message → ℕ) → Lines K → ℕ
weight_of_lines weight lines = sum_by (λ line. sum_by weight line) (values_of lines)

-- the lines that stay when a subscription ends: those under durable names, and those of queues by destination
pub record Shared : Type 0 where
  pub names : Lines Name
  pub queues : Lines (List ℕ)

abbrev pub weight_of_shared : (Message → ℕ) → Shared → ℕ
weight_of_shared weight shared = weight_of_lines weight shared.names + weight_of_lines weight shared.queues

-- whether a subscription has a line of its own: one of a topic with no durable name
abbrev pub is_own : Subscription → Bool
is_own sub = not (is_some sub.durable || is_queue sub.destination)

-- The line from which a subscription is served: under its durable name, of its queue, or its own.
abbrev pub line_from : Shared → Subscription → Option Name → List Message
line_from shared sub (Some name) = line_at name_cmp name shared.names
line_from shared sub None = if is_queue sub.destination then line_at text_cmp sub.destination shared.queues else sub.line

abbrev pub line_for : Shared → Subscription → List Message
line_for shared sub = line_from shared sub sub.durable

-- the lines that stay once the rest of a subscription's line is left; its own is not among them
abbrev pub left_from : Shared → Subscription → List Message → Option Name → Shared
left_from shared sub rest (Some name) = record shared { names = with_line name_cmp name rest shared.names }
left_from shared sub rest None = if is_queue sub.destination then record shared { queues = with_line text_cmp sub.destination rest shared.queues } else shared

abbrev pub left_shared : Shared → Subscription → List Message → Shared
left_shared shared sub rest = left_from shared sub rest sub.durable

-- the subscription once the rest of its line is left
abbrev pub left_line : Subscription → List Message → Subscription
left_line sub rest = record sub { line = if is_own sub then rest else sub.line }

-- The lines that stay once a subscription has ended: what it has not acknowledged stands there again by number, unless its
-- line was its own.
abbrev pub returned_from : Shared → Subscription → Option Name → Shared
returned_from shared sub (Some name) = record shared { names = with_deliveries name_cmp name sub.unacknowledged shared.names }
returned_from shared sub None = if is_queue sub.destination then record shared { queues = with_deliveries text_cmp sub.destination sub.unacknowledged shared.queues } else shared

abbrev pub returned : Shared → Subscription → Shared
returned shared sub = returned_from shared sub sub.durable
