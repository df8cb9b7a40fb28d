use Rattle.std.proofs.Common.{◌≡◌, ◌≤◌, ◌+◌, ◌||◌, List, ◌∷◌, ℕ, Bool, true, false, Option, Some, None, is_some, not, arith, ap, if◌then◌else◌}
use Rattle.std.specs.List.{sum_by}
use Rattle.std.proofs.lemmas.List.Sums.{sum_by-cons}
use Rattle.command_core.specs.Destinations.{is_queue}
use Rattle.line_core.specs.declared.message.Message.{Message}
use Rattle.broker_state.specs.declared.subscription.Subscription.{Subscription}
use Rattle.broker_state.specs.Names.{Name, name_cmp, text_cmp}
use Rattle.broker_state.specs.States.{weight_of_subscription}
use Rattle.broker_state.specs.Waiting.{Shared, left_from, left_line, left_shared, line_at, line_for, line_from, returned, returned_from, weight_of_shared, with_deliveries, with_line}
use Rattle.broker_state.proofs.KeyedLines.{IsRising, rising-with_line, weight-with_line, with_deliveries_weight}
use Rattle.broker_state.proofs.Keys.{names_total, same_names, same_texts, texts_total}

-- the lines that stay, by rising key
pub record AreRising (shared : Shared) : Type 0 where
  pub names : IsRising name_cmp names_total shared.names
  pub queues : IsRising text_cmp texts_total shared.queues

module _ (shared : Shared) (rising : AreRising shared) (sub : Subscription) where
  queues_left : (rest : List Message) (kind : Bool) → AreRising (if kind then record shared { queues = with_line text_cmp sub.destination rest shared.queues } else shared)
  queues_left rest true =
      record { names = rising.names; queues = rising-with_line text_cmp texts_total sub.destination rest shared.queues rising.queues }
  queues_left rest false = rising

  left_from_rising : (rest : List Message) (o : Option Name) → AreRising (left_from shared sub rest o)
  left_from_rising rest (Some name) =
      record { names = rising-with_line name_cmp names_total name rest shared.names rising.names; queues = rising.queues }
  left_from_rising rest None = queues_left rest (is_queue sub.destination)

  -- they stay so when the rest of one is left
  pub left_rising : (rest : List Message) → AreRising (left_shared shared sub rest)
  left_rising rest = left_from_rising rest sub.durable

  module _ (weight : Message → ℕ) where
    module _ (m : Message) (rest : List Message) where
      queue_lighter : (kind : Bool) → (if kind then line_at text_cmp sub.destination shared.queues else sub.line) ≡ m ∷ rest → weight_of_shared weight (if kind then record shared { queues = with_line text_cmp sub.destination rest shared.queues } else shared) + sum_by weight (if not (false || kind) then rest else sub.line) + weight m ≡ weight_of_shared weight shared + sum_by weight sub.line
      queue_lighter true line =
          omega (arith, weight-with_line text_cmp texts_total same_texts weight sub.destination rest shared.queues rising.queues, ap (λ (l : List Message). sum_by weight l) line, sum_by-cons weight m rest)
      queue_lighter false line =
          omega (arith, ap (λ (l : List Message). sum_by weight l) line, sum_by-cons weight m rest)

      lighter_from : (o : Option Name) → line_from shared sub o ≡ m ∷ rest → weight_of_shared weight (left_from shared sub rest o) + sum_by weight (if not (is_some o || is_queue sub.destination) then rest else sub.line) + weight m ≡ weight_of_shared weight shared + sum_by weight sub.line
      lighter_from (Some name) line =
          omega (arith, weight-with_line name_cmp names_total same_names weight name rest shared.names rising.names, ap (λ (l : List Message). sum_by weight l) line, sum_by-cons weight m rest)
      lighter_from None line = queue_lighter (is_queue sub.destination) line

      -- the first message of a subscription's line is taken out
      pub lighter : line_for shared sub ≡ m ∷ rest → weight_of_shared weight (left_shared shared sub rest) + sum_by weight (left_line sub rest).line + weight m ≡ weight_of_shared weight shared + sum_by weight sub.line
      lighter line = lighter_from sub.durable line

    abbrev IsReturned : Shared → Type 0
    IsReturned after = AreRising after × (weight_of_shared weight after ≤ weight_of_shared weight shared + weight_of_subscription weight sub)

    queue_returned : (kind : Bool) → IsReturned (if kind then record shared { queues = with_deliveries text_cmp sub.destination sub.unacknowledged shared.queues } else shared)
    queue_returned true =
        let back = with_deliveries_weight text_cmp texts_total same_texts weight sub.destination sub.unacknowledged shared.queues rising.queues in
        (record { names = rising.names; queues = back.0 }, omega (arith, back.1))
    queue_returned false = (rising, omega arith)

    returned_by : (o : Option Name) → IsReturned (returned_from shared sub o)
    returned_by (Some name) =
        let back = with_deliveries_weight name_cmp names_total same_names weight name sub.unacknowledged shared.names rising.names in
        (record { names = back.0; queues = rising.queues }, omega (arith, back.1))
    returned_by None = queue_returned (is_queue sub.destination)

    -- what goes back into the lines was held
    pub returned_weight : AreRising (returned shared sub) × (weight_of_shared weight (returned shared sub) ≤ weight_of_shared weight shared + weight_of_subscription weight sub)
    returned_weight = returned_by sub.durable
