use Rattle.std.proofs.Common.{◌≡◌, ◌+◌, ◌++◌, List, [], ◌∷◌, ℕ, true, length, map, refl, ap, ◌∙◌, arith, if◌then◌else◌}
use Rattle.std.specs.List.{flat_map, sum_by}
use Rattle.std.specs.Map.{values_of}
use Rattle.std.proofs.lemmas.List.Sums.{sum_by-append, sum_by-cons}
use Rattle.command_core.specs.Destinations.{is_queue}
use Rattle.line_core.specs.declared.message.Message.{Message}
use Rattle.broker_state.specs.declared.subscription.Subscription.{Subscription}
use Rattle.broker_state.specs.States as states
use Rattle.broker_state.specs.Names.{Name, text_cmp}
use Rattle.broker_state.specs.States.{State, one, standing, weight_of, weight_of_subscription}
use Rattle.broker_state.specs.Waiting.{Lines, weight_of_lines, with_message}
use Rattle.broker_state.specs.Operations.{copied, copied_to_names, fanned_out}
use Rattle.broker_state.proofs.KeyedLines.{weight-with_message}
use Rattle.broker_state.proofs.Keys.{same_texts, texts_total}
use Rattle.broker_state.proofs.Weights.{ones}

module _ (weight : Message → ℕ) where
  lines_stand : {K : Type 0} (lines : Lines K) → weight_of_lines weight lines ≡ sum_by weight (flat_map (λ (e : K × List Message). e.1) lines)
  lines_stand [] = refl
  lines_stand {K} (e ∷ lines) =
      omega (arith, lines_stand lines, sum_by-cons (λ (line : List Message). sum_by weight line) e.1 (values_of lines), sum_by-append weight e.1 (flat_map (λ (x : K × List Message). x.1) lines))

  flight_stands : (flight : List (ℕ × Message)) → sum_by weight (map (λ (d : ℕ × Message). d.1) flight) ≡ sum_by (λ (d : ℕ × Message). weight d.1) flight
  flight_stands [] = refl
  flight_stands (d ∷ flight) =
      omega (arith, flight_stands flight, sum_by-cons weight d.1 (map (λ (x : ℕ × Message). x.1) flight), sum_by-cons (λ (x : ℕ × Message). weight x.1) d flight)

  subscriptions_stand : (subs : List Subscription) → sum_by (weight_of_subscription weight) subs ≡ sum_by weight (flat_map (λ (sub : Subscription). sub.line ++ map (λ (d : ℕ × Message). d.1) sub.unacknowledged) subs)
  subscriptions_stand [] = refl
  subscriptions_stand (x ∷ subs) =
      omega (arith, subscriptions_stand subs, sum_by-cons (weight_of_subscription weight) x subs, sum_by-append weight (x.line ++ map (λ (d : ℕ × Message). d.1) x.unacknowledged) (flat_map (λ (sub : Subscription). sub.line ++ map (λ (d : ℕ × Message). d.1) sub.unacknowledged) subs), sum_by-append weight x.line (map (λ (d : ℕ × Message). d.1) x.unacknowledged), flight_stands x.unacknowledged)

  -- what is held is what stands somewhere
  pub all_stand : (s : State) → weight_of weight s ≡ sum_by weight (standing s)
  all_stand s =
      let names = flat_map (λ (e : Name × List Message). e.1) s.shared.names in
      let queues = flat_map (λ (e : List ℕ × List Message). e.1) s.shared.queues in
      let subs = flat_map (λ (sub : Subscription). sub.line ++ map (λ (d : ℕ × Message). d.1) sub.unacknowledged) s.subscriptions in
      omega (arith, lines_stand s.shared.names, lines_stand s.shared.queues, subscriptions_stand s.subscriptions, sum_by-append weight (names ++ queues) subs, sum_by-append weight names queues)

  -- a message to a queue is put there once
  pub queue_once : (s : State) (m : Message) → states.IsInOrder s → is_queue m.sending.destination ≡ true → weight_of weight (fanned_out s m) ≡ weight_of weight s + weight m
  queue_once s m order is =
      let put = weight-with_message text_cmp texts_total same_texts weight m.sending.destination m s.shared.queues order.queues in
      ap (λ b. weight_of weight (if b then record s { shared = record s.shared { queues = with_message text_cmp m.sending.destination m s.shared.queues } } else record s { shared = record s.shared { names = copied_to_names m s.durables s.shared.names }; subscriptions = map (copied m) s.subscriptions })) is ∙ omega (arith, put)

pub count_stands : (s : State) → weight_of one s ≡ length (standing s)
count_stands s = all_stand one s ∙ ones (standing s)
