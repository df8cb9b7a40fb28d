use Rattle.std.proofs.Common.{◌≡◌, ◌≤◌, ◌+◌, List, [], ◌∷◌, fold, ℕ, Bool, true, false, None, Some, refl, arith}
use Rattle.std.specs.List.{sum_by}
use Rattle.std.proofs.lemmas.List.Sums.{sum_by-cons, sum_by_push}
use Rattle.command_core.specs.Commands.{CommandValue}
use Rattle.command_core.specs.Destinations.{is_queue}
use Rattle.command_core.specs.Sendings.{SendingValue}
use Rattle.line_core.specs.declared.message.Message.{Message}
use Rattle.line_core.specs.Flights.{settled}
use Rattle.broker_state.specs.declared.nack_rule.NackRule.{NackRule}
use Rattle.broker_state.specs.declared.subscription.Subscription.{Subscription}
use Rattle.broker_state.specs.Dead.{dead_queue, first_place, is_dropped, refused_from}
use Rattle.broker_state.specs.Executing.{HasFewMembers}
use Rattle.broker_state.specs.Lists.{with_first}
use Rattle.broker_state.specs.Names.{name_cmp, text_cmp}
use Rattle.broker_state.specs.Operations.{awaits, fresh, message_of, restarted, settled_by, fanned_out}
use Rattle.broker_state.specs.States.{IsInOrder, State, weight_of, weight_of_subscription}
use Rattle.broker_state.specs.Sound.{HasSubscriptions}
use Rattle.broker_state.specs.Waiting.{Shared, is_own, returned, weight_of_shared}
use Rattle.broker_state.specs.Steps.{step_by}
use Rattle.broker_state.proofs.Counts.{sum_first_less}
use Rattle.broker_state.proofs.Deliveries.{handed_weight, sum_picked}
use Rattle.broker_state.proofs.KeyedLines.{weight-removed, weight-with_message}
use Rattle.broker_state.proofs.Keys.{same_texts, texts_total}
use Rattle.broker_state.proofs.Limited.{IsLimited, led_few, up_to_64}
use Rattle.broker_state.proofs.Meters.{IsMetered, settles_few, sum_nothing}
use Rattle.broker_state.proofs.Ordered.{IsOrdered, led_in_order}
use Rattle.broker_state.proofs.Refusals.{all_kept, kept_from, kept_in, weight-with_refused}
use Rattle.broker_state.proofs.Sendings.{fanned_out_by}
use Rattle.broker_state.proofs.SharedOrder.{AreRising, returned_weight}
use Rattle.broker_state.proofs.Walk.{Keeps, KeepsFrom}
use Rattle.broker_state.proofs.Weights.{weight-copied, weight-copied_to_names, weight-settled_by}

-- What is held and so much to spare weigh no more than that.
abbrev pub IsLight : (Message → ℕ) → ℕ → ℕ → State → Type 0
IsLight weight most spare t = weight_of weight t + spare ≤ most

-- What a command puts into queues weighs no more, from place to place, than what is left falls by, and what it sends to a
-- topic weighs nothing.
pub record IsAllotted (weight : Message → ℕ) (number : ℕ) (left : ℕ → ℕ) : Type 0 where
  pub metered : IsMetered weight number left
  pub topics : (place : ℕ) (sending : SendingValue) → is_queue sending.destination ≡ false → weight (message_of number place sending) ≡ 0

module _ (weight : Message → ℕ) where
  acknowledged_weight : (p : Subscription → Bool) (delivery : ℕ) (subs : List Subscription) → sum_by (weight_of_subscription weight) (with_first p (settled_by delivery) subs) ≤ sum_by (weight_of_subscription weight) subs
  acknowledged_weight p delivery subs =
      sum_first_less (weight_of_subscription weight) (settled_by delivery) p (λ x. omega (arith, weight-settled_by weight delivery x)) subs

  module _ (most number : ℕ) where
    -- No change but a sending and a refusal makes more of what is held.
    pub light_changes : (spare : ℕ) → Keeps (IsOrdered number) (IsLight weight most spare)
    light_changes spare = record {
      opened = λ s client_id earlier known now. now;
      begun = λ s session id to mode can known now.
          omega (arith, sum_by_push (weight_of_subscription weight) s.subscriptions (fresh session id to mode None), now);
      used = λ s session id to mode name can own topic free known now.
          omega (arith, sum_by_push (weight_of_subscription weight) s.subscriptions (fresh session id to mode (Some name)), now);
      bound = λ s session id to mode name can own unknown few known now.
          omega (arith, sum_by_push (weight_of_subscription weight) s.subscriptions (fresh session id to mode (Some name)), now);
      without = λ s passes sub others is known now.
          omega (arith, (returned_weight s.shared known.order sub weight).1, sum_picked passes (weight_of_subscription weight) s.subscriptions sub others is, now);
      closed = λ s session none known now. now;
      forgotten = λ s name free known now. omega (arith, weight-removed weight name_cmp name s.shared.names, now);
      acknowledged = λ s session delivery known now.
          omega (arith, acknowledged_weight (awaits session delivery) delivery s.subscriptions, now);
      handed = λ s sub others m rest is line known now.
          omega (arith, handed_weight weight s sub others m rest known.order is line, now);
    }

    module _ (before after : ℕ) (s : State) (known : IsOrdered number s) (now : IsLight weight most before s) where
      -- one more message, which what is to spare is enough for
      light_fanned_out : (m : Message) → weight m + after ≤ before → (is_queue m.sending.destination ≡ false → weight m ≡ 0) → IsLight weight most after (fanned_out s m)
      light_fanned_out m enough topic = by (is_queue m.sending.destination) topic
        where
          by : (b : Bool) → (b ≡ false → weight m ≡ 0) → IsLight weight most after (fanned_out_by s m b)
          by true topic =
              omega (arith, weight-with_message text_cmp texts_total same_texts weight m.sending.destination m s.shared.queues known.order.queues, enough, now)
          by false topic =
              let copies = rw (topic refl) at (weight-copied weight m s.subscriptions) in
              let names = rw (topic refl) at (weight-copied_to_names weight m s.durables s.shared.names known.order.names).1 in
              omega (arith, copies, names, enough, now)

      -- and what a refusal keeps
      light_refused : (session place delivery : ℕ) (sub : Subscription) → sum_by weight (kept_from s session place delivery sub) + after ≤ before → IsLight weight most after (kept_in s session place delivery sub)
      light_refused session place delivery sub enough =
          omega (arith, acknowledged_weight (awaits session delivery) delivery s.subscriptions, (weight-with_refused weight (kept_from s session place delivery sub) s.shared.queues known.order.queues).1, enough, now)

    module _ (left : ℕ → ℕ) (allotted : IsAllotted weight number left) where
      light_from : KeepsFrom (IsLimited number) (λ place s. place ≤ 64 → IsLight weight most (left place) s)
      light_from = record {
        changes = λ place. up_to_64 number place (IsLight weight most (left place)) (light_changes (left place));
        next = λ place s known now few. omega (arith, allotted.metered.falls place, now (omega (arith, few)));
        fanned_out = λ place s sending fits known now few.
            light_fanned_out (left place) (left (place + 1)) s known.0 (now (omega (arith, few))) (message_of s.count place sending) (rw known.0.count (allotted.metered.new place sending (omega (arith, few)))) (rw known.0.count (allotted.topics place sending));
        refused = λ place s session delivery sub others is fits known now few.
            light_refused (left place) (left (place + 1)) s known.0 (now (omega (arith, few))) session place delivery sub (rw known.0.count (allotted.metered.refused place (is_dropped (is_own sub)) (settled sub.mode delivery sub.unacknowledged) (settles_few s (awaits session delivery) delivery sub others is known.1)));
      }

    -- where nothing that the command sends weighs anything
    weightless_from : ((place : ℕ) (sending : SendingValue) → weight (message_of number place sending) ≡ 0) → KeepsFrom (IsOrdered number) (λ place. IsLight weight most 0)
    weightless_from none = record {
      changes = λ place. light_changes 0;
      next = λ place s known now. now;
      fanned_out = λ place s sending fits known now.
          light_fanned_out 0 0 s known now (message_of s.count place sending) (rw known.count (omega (arith, none place sending))) (λ topic. rw known.count (none place sending));
      refused = λ place s session delivery sub others is fits known now.
          light_refused 0 0 s known now session place delivery sub (rw known.count (omega (arith, sum_nothing weight (refused_from (is_dropped (is_own sub)) number (first_place place) (settled sub.mode delivery sub.unacknowledged)) (all_kept (is_dropped (is_own sub)) number (λ m. weight m ≡ 0) (λ at m. none at (record m.sending { destination = dead_queue })) (first_place place) (settled sub.mode delivery sub.unacknowledged)))));
    }

-- A step of a command with few members makes no more of what is held than what is allotted to it.
pub step_weight : (weight : Message → ℕ) (left : ℕ → ℕ) (rule : NackRule) (s : State) (c : CommandValue) → HasFewMembers c.op → IsInOrder s → HasSubscriptions s → IsAllotted weight s.count left → weight_of weight (step_by rule s c) ≤ weight_of weight s + left 0
step_weight weight left rule s c few order limited allotted =
    let most = weight_of weight s + left 0 in
    let after = led_few s order limited (λ place. IsLight weight most (left place)) (light_from weight most s.count left allotted) rule c few (omega arith) in
    omega (arith, after.1)

-- What weighs nothing when it is sent weighs nothing later: no step makes more of what is held.
pub step_light : (weight : Message → ℕ) (rule : NackRule) (s : State) (c : CommandValue) → IsInOrder s → ((place : ℕ) (sending : SendingValue) → weight (message_of s.count place sending) ≡ 0) → weight_of weight (step_by rule s c) ≤ weight_of weight s
step_light weight rule s c order new =
    let now = led_in_order s order (λ place. IsLight weight (weight_of weight s) 0) (weightless_from weight (weight_of weight s) s.count new) rule c (omega arith) in
    omega (arith, now.2)

-- what goes back weighs no more than what was held
back_weight : (weight : Message → ℕ) (subs : List Subscription) (shared : Shared) → AreRising shared → weight_of_shared weight (fold returned shared subs) ≤ weight_of_shared weight shared + sum_by (weight_of_subscription weight) subs
back_weight weight [] shared rising = omega arith
back_weight weight (sub ∷ subs) shared rising =
    let here = returned_weight shared rising sub weight in
    omega (arith, here.1, back_weight weight subs (returned shared sub) here.0, sum_by-cons (weight_of_subscription weight) sub subs)

-- so nothing weighs more after a restart
pub restarted_weight : (weight : Message → ℕ) (s : State) → IsInOrder s → weight_of weight (restarted s) ≤ weight_of weight s
restarted_weight weight s order =
    omega (arith, back_weight weight s.subscriptions s.shared (record { names = order.names; queues = order.queues }))
