use Rattle.std.proofs.Common.{◌≡◌, ◌≢◌, ◌<◌, ◌≤◌, ◌&&◌, ◌||◌, ◌++◌, ◌⊎◌, inl, inr, List, [], ◌∷◌, ℕ, Bool, true, false, Option, Some, None, cond, count_by, is_some, map, not, refl, ap, ◌∙◌, arith, if◌then◌else◌}
use Rattle.std.specs.List.{AllByRecursion, sum_by}
use Rattle.std.specs.Str.{bytes_eq}
use Rattle.std.proofs.lemmas.Bool.{cases_lt}
use Rattle.std.proofs.lemmas.List.Sums.{sum_by-append, sum_by-cons}
use Rattle.std.proofs.lemmas.Slice.Eq.{bytes_eq-Decides}
use Rattle.frame_core.proofs.Lists.{all_both, all_weaker}
use Rattle.command_core.specs.Commands.{CommandValue}
use Rattle.command_core.specs.Destinations.{is_queue}
use Rattle.line_core.specs.declared.message.Message.{Message}
use Rattle.line_core.specs.declared.message.MessageNumber.{MessageNumber}
use Rattle.line_core.specs.Lines.{is_same}
use Rattle.broker_state.specs.declared.subscription.Subscription.{Subscription}
use Rattle.broker_state.specs.declared.nack_rule.NackRule.{NackRule}
use Rattle.broker_state.specs.Executing.{HasFewMembers}
use Rattle.broker_state.specs.Kept.{takes_from, unacknowledged_by}
use Rattle.broker_state.specs.Names.{Name, name_cmp, text_cmp}
use Rattle.broker_state.specs.Operations.{message_of, restarted, uses}
use Rattle.broker_state.specs.Sound.{AreOnce, HasLines, HasNames, HasNumbers, HasSubscriptions, had_by}
use Rattle.broker_state.specs.States.{IsInOrder, State, empty_state, standing, weight_of, weight_of_subscription}
use Rattle.broker_state.specs.Steps.{led_to, step_by}
use Rattle.broker_state.specs.Waiting.{is_own, line_at}
use Rattle.broker_state.proofs.BoundNames.{names_changes, names_from}
use Rattle.broker_state.proofs.KeyedLines.{weight-removed}
use Rattle.broker_state.proofs.LineWeights.{flown, flown_where, flying, part}
use Rattle.broker_state.proofs.Limited.{led_few}
use Rattle.broker_state.proofs.MessageNumbers.{same_parts}
use Rattle.broker_state.proofs.Meters.{Meter, meter, none_metered, sum_nothing}
use Rattle.broker_state.proofs.Ordered.{IsOrdered, ordered_first, ordered_from, restarted_keeps_in_order}
use Rattle.broker_state.proofs.PlacedLines.{IsNamed, IsPlaced, placed_changes, placed_from}
use Rattle.broker_state.proofs.SingleCopies.{IsSingle, IsSingleOwn, in_queue, less_left, single_changes, single_from, under}
use Rattle.broker_state.proofs.Standing.{all_stand}
use Rattle.broker_state.proofs.Walk.{beside, beside_from, led_keeps, restarted_keeps}

-- each has no more than all together
each_part : {X : Type 0} (f : X → X → ℕ) (most : ℕ) (xs : List X) → ((x : X) → sum_by (f x) xs ≤ most) → AllByRecursion (λ x. f x x ≤ most) xs
each_part f most [] all = tt
each_part {X} f most (x ∷ xs) all =
    (omega (arith, all x, sum_by-cons (f x) x xs), each_part f most xs (λ y. omega (arith, all y, sum_by-cons (f y) x xs)))

-- what holds of each for all of something, it holds for all of it of each
all_for : {A X : Type 0} (P : A → X → Type 0) (xs : List X) → ((a : A) → AllByRecursion (P a) xs) → AllByRecursion (λ x. (a : A) → P a x) xs
all_for P [] all = tt
all_for P (x ∷ xs) all = (λ a. (all a).0, all_for P xs (λ a. (all a).1))

less_sums : {X : Type 0} (f g : X → ℕ) → ((x : X) → f x ≤ g x) → (xs : List X) → sum_by f xs ≤ sum_by g xs
less_sums f g less [] = omega arith
less_sums f g less (x ∷ xs) =
    omega (arith, less x, less_sums f g less xs, sum_by-cons f x xs, sum_by-cons g x xs)

module _ (number : MessageNumber) where
  -- a message of that number counts for one
  abbrev counted : Bool → ℕ
  counted b = cond b 1 0

  abbrev copies : Message → ℕ
  copies m = counted (is_same number m.number)

  one_at_most : (m : Message) → copies m ≤ 1
  one_at_most m = by (is_same number m.number)
    where
      by : (b : Bool) → counted b ≤ 1
      by true = omega arith
      by false = omega arith

  -- one of another number does not
  another : (m : Message) → (is_same number m.number ≡ true → ⊥) → copies m ≡ 0
  another m other = by (is_same number m.number) refl
    where
      by : (b : Bool) → is_same number m.number ≡ b → counted b ≡ 0
      by true is = absurd (other is)
      by false is = refl

  of_another : (m : Message) → number.command ≢ m.number.command → copies m ≡ 0
  of_another m other = another m (λ is. other (same_parts number m.number is).0)

  meter_of : (command : ℕ) → Meter copies command number.place one_at_most (λ place sending other. another (message_of command place sending) (λ is. other (same_parts number (message_of command place sending).number is).1))
  meter_of command = meter copies command number.place one_at_most (λ place sending other. another (message_of command place sending) (λ is. other (same_parts number (message_of command place sending).number is).1))

  -- how often it stands in lines, and unacknowledged
  unacknowledged_copies : (such : Subscription → Bool) (subs : List Subscription) → sum_by copies (unacknowledged_by such subs) ≡ sum_by (part copies such) subs
  unacknowledged_copies such [] = refl
  unacknowledged_copies such (sub ∷ subs) =
      omega (arith, unacknowledged_copies such subs, flown_where copies (such sub) sub.unacknowledged, sum_by-cons (part copies such) sub subs, sum_by-append copies (if such sub then map (λ (d : ℕ × Message). d.1) sub.unacknowledged else []) (unacknowledged_by such subs))

  queue_copies : (to : List ℕ) (s : State) → sum_by copies (line_at text_cmp to s.shared.queues ++ unacknowledged_by (takes_from to) s.subscriptions) ≡ in_queue copies to s
  queue_copies to s =
      omega (arith, sum_by-append copies (line_at text_cmp to s.shared.queues) (unacknowledged_by (takes_from to) s.subscriptions), unacknowledged_copies (takes_from to) s.subscriptions)

  name_copies : (name : Name) (s : State) → sum_by copies (line_at name_cmp name s.shared.names ++ unacknowledged_by (uses name) s.subscriptions) ≡ under copies name s
  name_copies name s =
      omega (arith, sum_by-append copies (line_at name_cmp name s.shared.names) (unacknowledged_by (uses name) s.subscriptions), unacknowledged_copies (uses name) s.subscriptions)

  had_copies : (sub : Subscription) → sum_by copies (had_by sub) ≡ weight_of_subscription copies sub
  had_copies sub =
      omega (arith, sum_by-append copies sub.line (map (λ (d : ℕ × Message). d.1) sub.unacknowledged), flown copies sub.unacknowledged)

  -- where it stands nowhere it can be sent once
  part_less : (such : Subscription → Bool) (sub : Subscription) → part copies such sub ≤ weight_of_subscription copies sub
  part_less such sub = by (such sub)
    where
      by : (b : Bool) → (if b then flying copies sub.unacknowledged else 0) ≤ weight_of_subscription copies sub
      by true = omega arith
      by false = omega arith

  single_yet : (s : State) → weight_of copies s ≡ 0 → IsSingle copies 1 s
  single_yet s none = record {
    queues = λ to. omega (arith, none, weight-removed copies text_cmp to s.shared.queues, less_sums (part copies (takes_from to)) (weight_of_subscription copies) (part_less (takes_from to)) s.subscriptions);
    names = λ name. omega (arith, none, weight-removed copies name_cmp name s.shared.names, less_sums (part copies (uses name)) (weight_of_subscription copies) (part_less (uses name)) s.subscriptions);
    own = all_weaker (λ sub. weight_of_subscription copies sub ≤ 0) (IsSingleOwn copies 1) (λ sub none own. omega (arith, none)) s.subscriptions (each_part (λ x. weight_of_subscription copies) 0 s.subscriptions (λ x. omega (arith, none)));
  }

  none_stands : (s : State) → AllByRecursion (λ m. m.number.command < s.count) (standing s) → s.count ≤ number.command → weight_of copies s ≡ 0
  none_stands s numbers later =
      all_stand copies s ∙ sum_nothing copies (standing s) (all_weaker (λ m. m.number.command < s.count) (λ m. copies m ≡ 0) (λ m before. of_another m (λ same. omega (arith, same, before, later))) (standing s) numbers)

  single_of : (s : State) → HasLines s → IsSingle copies 0 s
  single_of s now = record {
    queues = λ to. omega (arith, now.once_in_queues to number, queue_copies to s);
    names = λ name. omega (arith, now.once_under_names name number, name_copies name s);
    own = all_weaker (λ sub. AreOnce (had_by sub)) (IsSingleOwn copies 0) (λ sub once own. omega (arith, once number, had_copies sub)) s.subscriptions now.once_of_own;
  }

  -- a step leaves one at most
  single_led : (rule : NackRule) (s : State) (c : CommandValue) → HasFewMembers c.op → IsInOrder s → HasSubscriptions s → HasNumbers s → HasLines s → IsSingle copies 0 (led_to rule s c.session c.op).state
  single_led rule s c few order limited numbers now = by (cases_lt number.command s.count)
    where
      by : (number.command < s.count) ⊎ (s.count ≤ number.command) → IsSingle copies 0 (led_to rule s c.session c.op).state
      by (inl earlier) =
          let none = none_metered copies s.count (λ place sending. of_another (message_of s.count place sending) (λ same. omega (arith, same, earlier))) in
          (led_few s order limited (λ place. IsSingle copies 0) (single_from copies s.count (λ place. 0) none) rule c few (single_of s now)).1
      by (inr later) =
          let one = meter_of s.count in
          let first = single_yet s (none_stands s numbers.messages later) in
          let after = led_few s order limited (λ place. IsSingle copies (one.left place)) (single_from copies s.count one.left one.metered) rule c few (less_left copies 1 (one.left 0) s (omega (arith, one.first)) first) in
          less_left copies (one.left after.0) 0 (led_to rule s c.session c.op).state (omega arith) after.1

  single_restarted : (s : State) → IsInOrder s → HasLines s → IsSingle copies 0 (restarted s)
  single_restarted s order now =
      restarted_keeps_in_order s order (IsSingle copies 0) (single_changes copies s.count 0) (single_of s now)

  -- A subscription whose line is not its own has one at most too: that is a part of what is in the line's queue, or under
  -- its name.
  abbrev source_by : Option Name → Bool → List ℕ → Subscription → Bool
  source_by (Some name) kind to sub = uses name sub
  source_by None true to sub = takes_from to sub
  source_by None false to sub = false

  abbrev source : Subscription → Subscription → Bool
  source x = source_by x.durable (is_queue x.destination) x.destination

  none_taken : (subs : List Subscription) → sum_by (λ (sub : Subscription). 0) subs ≡ 0
  none_taken [] = refl
  none_taken (sub ∷ subs) = omega (arith, none_taken subs, sum_by-cons (λ (x : Subscription). 0) sub subs)

  source_single : (s : State) → IsSingle copies 0 s → (o : Option Name) (kind : Bool) (to : List ℕ) → sum_by (part copies (source_by o kind to)) s.subscriptions ≤ 1
  source_single s now (Some name) kind to = omega (arith, now.names name)
  source_single s now None true to = omega (arith, now.queues to)
  source_single s now None false to = omega (arith, none_taken s.subscriptions)

  -- each takes from where it takes from
  takes_itself : (sub : Subscription) (o : Option Name) (kind : Bool) → sub.durable ≡ o → is_queue sub.destination ≡ kind → not (is_some o || kind) ≡ false → source_by o kind sub.destination sub ≡ true
  takes_itself sub (Some name) kind durable queue other =
      ap (λ (o : Option Name). elim o as (λ x. Bool) [ None ↦ false | Some n ↦ bytes_eq name.0 n.0 && bytes_eq name.1 n.1 ]) durable
      ∙ ap (λ b. b && bytes_eq name.1 name.1) ((bytes_eq-Decides name.0 name.0).1 refl) ∙ (bytes_eq-Decides name.1 name.1).1 refl
  takes_itself sub None true durable queue other =
      ap (λ (o : Option Name). not (is_some o) && is_queue sub.destination && bytes_eq sub.destination sub.destination) durable
      ∙ ap (λ b. b && bytes_eq sub.destination sub.destination) queue ∙ (bytes_eq-Decides sub.destination sub.destination).1 refl
  takes_itself sub None false durable queue other = absurd cc

  had_single : (s : State) → IsPlaced s → IsSingle copies 0 s → AllByRecursion (λ sub. sum_by copies (had_by sub) ≤ 1) s.subscriptions
  had_single s placed now =
      all_both (λ sub. part copies (source sub) sub ≤ 1) Both (λ sub. sum_by copies (had_by sub) ≤ 1) (λ sub taken both. by sub taken both (is_own sub) refl) s.subscriptions taken (all_both (λ sub. is_own sub ≡ false → sub.line ≡ []) (IsSingleOwn copies 0) Both (λ sub own single. (own, single)) s.subscriptions placed.own now.own)
    where
      Both : Subscription → Type 0
      Both sub = (is_own sub ≡ false → sub.line ≡ []) × IsSingleOwn copies 0 sub

      taken : AllByRecursion (λ sub. part copies (source sub) sub ≤ 1) s.subscriptions
      taken =
          each_part (λ x. part copies (source x)) 1 s.subscriptions (λ x. source_single s now x.durable (is_queue x.destination) x.destination)

      by : (sub : Subscription) → part copies (source sub) sub ≤ 1 → Both sub → (b : Bool) → is_own sub ≡ b → sum_by copies (had_by sub) ≤ 1
      by sub taken both true own = omega (arith, both.1 own, had_copies sub)
      by sub taken both false other =
          let itself = takes_itself sub sub.durable (is_queue sub.destination) refl refl other in
          let all : part copies (source sub) sub ≡ flying copies sub.unacknowledged = ap (λ b. if b then flying copies sub.unacknowledged else 0) itself in
          omega (arith, taken, all, had_copies sub, ap (λ l. sum_by copies l) (both.0 other))

-- all clauses of a state where messages are placed and none stands twice
lines_of : (s : State) → IsPlaced s → ((number : MessageNumber) → IsSingle (copies number) 0 s) → HasLines s
lines_of s placed single = record {
  queues = placed.queues;
  names = placed.names;
  to = placed.to;
  own = placed.own;
  once_in_queues = λ to number. omega (arith, (single number).queues to, queue_copies number to s);
  once_under_names = λ name number. omega (arith, (single number).names name, name_copies number name s);
  once_of_own = all_for (λ (number : MessageNumber) (sub : Subscription). count_by (λ m. is_same number m.number) (had_by sub) ≤ 1) s.subscriptions (λ number. had_single number s placed (single number));
}

placed_of : (s : State) → HasLines s → IsPlaced s
placed_of s now = record { queues = now.queues; names = now.names; to = now.to; own = now.own }

-- nothing stands at first
pub empty_lines : HasLines empty_state
empty_lines = record {
  queues = tt;
  names = tt;
  to = tt;
  own = tt;
  once_in_queues = λ to number. omega arith;
  once_under_names = λ name number. omega arith;
  once_of_own = tt;
}

-- a step keeps what is asked of lines, and so does a restart
pub step_lines : (rule : NackRule) (s : State) (c : CommandValue) → HasFewMembers c.op → IsInOrder s → HasSubscriptions s → HasNames s → HasNumbers s → HasLines s → HasLines (step_by rule s c)
step_lines rule s c few order limited names numbers now =
    let named = beside_from (IsOrdered s.count) (λ place. HasNames) (ordered_from s.count) (names_from s.count) in
    let all = beside_from (IsNamed s.count) (λ place. IsPlaced) named (placed_from s.count) in
    let after = led_keeps (λ place t. IsNamed s.count t × IsPlaced t) all rule s c.session c.op order.opened ((ordered_first s order, names), placed_of s now) in
    let led = lines_of (led_to rule s c.session c.op).state after.2.1 (λ number. single_led number rule s c few order limited numbers now) in
    record { queues = led.queues; names = led.names; to = led.to; own = led.own; once_in_queues = led.once_in_queues; once_under_names = led.once_under_names; once_of_own = led.once_of_own }

pub restarted_lines : (s : State) → IsInOrder s → HasNames s → HasLines s → HasLines (restarted s)
restarted_lines s order names now =
    let named = beside (IsOrdered s.count) HasNames ((ordered_from s.count).changes 0) (names_changes s.count) in
    let all = beside (IsNamed s.count) IsPlaced named (placed_changes s.count) in
    let after = restarted_keeps (λ t. IsNamed s.count t × IsPlaced t) all s ((ordered_first s order, names), placed_of s now) in
    lines_of (restarted s) after.1 (λ number. single_restarted number s order now)
