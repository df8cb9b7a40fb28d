use Rattle.std.proofs.Common.{◌≡◌, ◌<◌, ◌+◌, List, [], ◌∷◌, ℕ, Bool, true, false, refl, arith}
use Rattle.std.specs.BTreeMap.{is_at}
use Rattle.std.specs.List.{AllByRecursion}
use Rattle.std.specs.List.Sorted.{IsStrictlySortedBy}
use Rattle.std.specs.Map.{keys_of}
use Rattle.std.specs.Ordering.{nat_cmp}
use Rattle.std.proofs.lemmas.Cmp.{nat_cmp_total}
use Rattle.command_core.specs.Commands.{CommandValue}
use Rattle.command_core.specs.Destinations.{is_queue}
use Rattle.line_core.specs.declared.message.Message.{Message}
use Rattle.broker_state.specs.declared.nack_rule.NackRule.{NackRule}
use Rattle.broker_state.specs.Names.{name_cmp, text_cmp}
use Rattle.broker_state.specs.Operations.{message_of, restarted, fanned_out}
use Rattle.broker_state.specs.States.{IsInOrder, State, empty_state}
use Rattle.broker_state.specs.Steps.{done, led_to, step_by}
use Rattle.broker_state.specs.Waiting.{Shared}
use Rattle.broker_state.proofs.KeyedLines.{rising-with_message}
use Rattle.broker_state.proofs.Keys.{names_total, texts_total}
use Rattle.broker_state.proofs.Refusals.{kept_from, weight-with_refused}
use Rattle.broker_state.proofs.Sendings.{fanned_out_by}
use Rattle.broker_state.proofs.SharedOrder.{AreRising, left_rising, returned_weight}
use Rattle.broker_state.proofs.SortedEntries.{all_inserted, all_removed, sorted_inserted, sorted_removed}
use Rattle.broker_state.proofs.Walk.{Anything, Keeps, KeepsFrom, beside, beside_from, done_keeps, led_keeps, restarted_keeps}
use Rattle.broker_state.proofs.Weights.{weight-copied_to_names}

-- The lines, the durable names and the sessions are in order while the command of that number is carried out.
pub record IsOrdered (number : ℕ) (t : State) : Type 0 where
  pub order : AreRising t.shared
  pub durables : IsStrictlySortedBy name_cmp (keys_of t.durables)
  pub sessions : IsStrictlySortedBy nat_cmp (keys_of t.sessions)
  pub opened : AllByRecursion (λ session. session.0 < number + 1) t.sessions
  pub count : t.count ≡ number

module _ (number : ℕ) where
  ordered_lines : (s : State) (shared : Shared) → AreRising shared → IsOrdered number s → IsOrdered number (record s { shared = shared })
  ordered_lines s shared rising now =
      record { order = rising; durables = now.durables; sessions = now.sessions; opened = now.opened; count = now.count }

  -- subscriptions are no part of it
  ordered_changes : Keeps Anything (IsOrdered number)
  ordered_changes = record {
    opened = λ s client_id earlier _ now. record {
      order = now.order;
      durables = now.durables;
      sessions = sorted_inserted nat_cmp nat_cmp_total s.count client_id s.sessions now.sessions;
      opened = all_inserted (λ e. e.0 < number + 1) nat_cmp s.count client_id (omega (arith, now.count)) (λ e under. under) s.sessions now.opened;
      count = now.count;
    };
    begun = λ s session id to mode can _ now. record { order = now.order; durables = now.durables; sessions = now.sessions; opened = now.opened; count = now.count };
    used = λ s session id to mode name can own topic free _ now.
        record { order = now.order; durables = now.durables; sessions = now.sessions; opened = now.opened; count = now.count };
    bound = λ s session id to mode name can own unknown few _ now. record {
      order = now.order;
      durables = sorted_inserted name_cmp names_total name to s.durables now.durables;
      sessions = now.sessions;
      opened = now.opened;
      count = now.count;
    };
    without = λ s passes sub others is _ now. record {
      order = (returned_weight s.shared now.order sub (λ m. 0)).0;
      durables = now.durables;
      sessions = now.sessions;
      opened = now.opened;
      count = now.count;
    };
    closed = λ s session none _ now. record {
      order = now.order;
      durables = now.durables;
      sessions = sorted_removed nat_cmp (is_at (nat_cmp session)) s.sessions now.sessions;
      opened = all_removed (λ e. e.0 < number + 1) (is_at (nat_cmp session)) s.sessions now.opened;
      count = now.count;
    };
    forgotten = λ s name free _ now. record {
      order = record { names = sorted_removed name_cmp (is_at (name_cmp name)) s.shared.names now.order.names; queues = now.order.queues };
      durables = sorted_removed name_cmp (is_at (name_cmp name)) s.durables now.durables;
      sessions = now.sessions;
      opened = now.opened;
      count = now.count;
    };
    acknowledged = λ s session delivery _ now. record { order = now.order; durables = now.durables; sessions = now.sessions; opened = now.opened; count = now.count };
    handed = λ s sub others m rest is line _ now. record {
      order = left_rising s.shared now.order sub rest;
      durables = now.durables;
      sessions = now.sessions;
      opened = now.opened;
      count = now.count;
    };
  }

  ordered_fanned_out : (s : State) (m : Message) → IsOrdered number s → IsOrdered number (fanned_out s m)
  ordered_fanned_out s m now = by (is_queue m.sending.destination)
    where
      by : (b : Bool) → IsOrdered number (fanned_out_by s m b)
      by true = record {
        order = record { names = now.order.names; queues = rising-with_message text_cmp texts_total m.sending.destination m s.shared.queues now.order.queues };
        durables = now.durables;
        sessions = now.sessions;
        opened = now.opened;
        count = now.count;
      }
      by false = record {
        order = record { names = (weight-copied_to_names (λ x. 0) m s.durables s.shared.names now.order.names).0; queues = now.order.queues };
        durables = now.durables;
        sessions = now.sessions;
        opened = now.opened;
        count = now.count;
      }

  -- each change keeps the order
  pub ordered_from : KeepsFrom Anything (λ place. IsOrdered number)
  ordered_from = record {
    changes = λ place. ordered_changes;
    next = λ place s _ now. now;
    fanned_out = λ place s sending fits _ now. ordered_fanned_out s (message_of s.count place sending) now;
    refused = λ place s session delivery sub others is fits _ now. record {
      order = record { names = now.order.names; queues = (weight-with_refused (λ m. 0) (kept_from s session place delivery sub) s.shared.queues now.order.queues).0 };
      durables = now.durables;
      sessions = now.sessions;
      opened = now.opened;
      count = now.count;
    };
  }

later : {X : Type 0} (n : ℕ) (es : List (ℕ × X)) → AllByRecursion (λ (e : ℕ × X). e.0 < n) es → AllByRecursion (λ (e : ℕ × X). e.0 < n + 1) es
later n [] all = tt
later n (e ∷ es) all = (omega (arith, all.0), later n es all.1)

pub ordered_first : (s : State) → IsInOrder s → IsOrdered s.count s
ordered_first s order =
    record { order = record { names = order.names; queues = order.queues }; durables = order.durables; sessions = order.sessions; opened = later s.count s.sessions order.opened; count = refl }

-- A rule that each change keeps, of a state in order, is kept by what a command leads to, and by a restart.
module _ (s : State) (order : IsInOrder s) where
  pub led_in_order : (Rule : ℕ → State → Type 0) → KeepsFrom (IsOrdered s.count) Rule → (rule : NackRule) (c : CommandValue) → Rule 0 s → (place : ℕ) × IsOrdered s.count (led_to rule s c.session c.op).state × Rule place (led_to rule s c.session c.op).state
  led_in_order Rule keeps rule c now =
      let after = led_keeps (λ place t. IsOrdered s.count t × Rule place t) (beside_from (IsOrdered s.count) Rule (ordered_from s.count) keeps) rule s c.session c.op order.opened (ordered_first s order, now) in
      (after.0, after.2.0, after.2.1)

  pub restarted_keeps_in_order : (Rule : State → Type 0) → Keeps (IsOrdered s.count) Rule → Rule s → Rule (restarted s)
  restarted_keeps_in_order Rule keeps now =
      (restarted_keeps (λ t. IsOrdered s.count t × Rule t) (beside (IsOrdered s.count) Rule (ordered_changes s.count) keeps) s (ordered_first s order, now)).1

-- the first state is in order
pub empty_in_order : IsInOrder empty_state
unfolding IsStrictlySortedBy
empty_in_order = record { sessions = tt; opened = tt; durables = tt; names = tt; queues = tt }

-- a step keeps the state in order
pub step_in_order : (rule : NackRule) (s : State) (c : CommandValue) → IsInOrder s → IsInOrder (step_by rule s c)
step_in_order rule s c order =
    let now = (led_keeps (λ place. IsOrdered s.count) (ordered_from s.count) rule s c.session c.op order.opened (ordered_first s order)).2 in
    record { sessions = now.sessions; opened = now.opened; durables = now.durables; names = now.order.names; queues = now.order.queues }

-- and so does a restart
pub restarted_in_order : (s : State) → IsInOrder s → IsInOrder (restarted s)
unfolding IsStrictlySortedBy
restarted_in_order s order =
    let now = restarted_keeps (IsOrdered s.count) (ordered_changes s.count) s (ordered_first s order) in
    record { sessions = tt; opened = tt; durables = now.durables; names = now.order.names; queues = now.order.queues }

-- what an operation does leaves the order and the count
pub done_ordered : (rule : NackRule) (s : State) (c : CommandValue) → IsInOrder s → IsOrdered s.count (done rule s c.session c.op)
done_ordered rule s c order =
    (done_keeps (λ place. IsOrdered s.count) (ordered_from s.count) rule s c.session c.op order.opened (ordered_first s order)).2

pub done_count : (rule : NackRule) (s : State) (c : CommandValue) → IsInOrder s → (done rule s c.session c.op).count ≡ s.count
done_count rule s c order = (done_ordered rule s c order).count
