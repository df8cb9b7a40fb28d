use Rattle.std.proofs.Common.{◌≡◌, ◌<◌, ◌≤◌, ◌&&◌, ◌==◌, ◌++◌, ◌^◌, List, [], ◌∷◌, ℕ, Bool, true, false, true≢false, not, Option, Some, None, count_by, is_some, length, map, nat_le, nat_lt, refl, sym, ap, eq-eqb, ◌∙◌, arith, if◌then◌else◌}
use Rattle.std.specs.BTreeMap.{is_at}
use Rattle.std.specs.List.{AllByRecursion, list_any}
use Rattle.std.specs.Map.{lookup, remove_entry}
use Rattle.std.specs.Ordering.{is_eq, nat_cmp}
use Rattle.std.specs.Str.{bytes_eq}
use Rattle.std.proofs.lemmas.Bool.{and_parts, eqb-true, leb-false, ltb-true}
use Rattle.std.proofs.lemmas.List.{length-append}
use Rattle.std.proofs.lemmas.Map.Lookups.{exact_unsigned}
use Rattle.std.proofs.lemmas.Slice.Eq.{bytes_eq-Decides}
use Rattle.frame_core.proofs.Lists.{all_both, all_push, all_weaker}
use Rattle.command_core.specs.declared.command.AckMode.{AckMode}
use Rattle.command_core.specs.declared.command.AckMode.TheVariants.{Auto, Client, ClientIndividual}
use Rattle.command_core.specs.Commands.{CommandValue}
use Rattle.command_core.specs.Destinations.{is_queue}
use Rattle.line_core.specs.declared.message.Message.{Message}
use Rattle.line_core.proofs.Flights.{length-settled}
use Rattle.broker_state.specs.declared.subscription.Subscription.{Subscription}
use Rattle.broker_state.specs.HandOut.{can_take, delivered, handed, has_room, is_auto}
use Rattle.broker_state.specs.declared.nack_rule.NackRule.{NackRule}
use Rattle.broker_state.specs.Lists.{is_none, picked, with_first}
use Rattle.broker_state.specs.Names.{Name}
use Rattle.broker_state.specs.Operations.{awaits, copied, forgotten, fresh, is_named, is_of, message_of, opened, restarted, settled_by, fanned_out, with_subscription, without}
use Rattle.broker_state.specs.Sound.{HasSubscriptions, window_of}
use Rattle.broker_state.specs.States.{IsInOrder, State, empty_state, is_open}
use Rattle.broker_state.specs.Steps.{step_by}
use Rattle.broker_state.specs.Waiting.{left_line, line_for}
use Rattle.broker_state.proofs.Counts.{count_added, count_behind, count_left, count_none, counted, sum_mapped, sum_with_first}
use Rattle.broker_state.proofs.Lookups.{is_equal, lookup_removed, some_inserted}
use Rattle.broker_state.proofs.Ordered.{IsOrdered, led_in_order, restarted_keeps_in_order}
use Rattle.broker_state.proofs.Picked.{all_picked, all_with_first, picked_passes}
use Rattle.broker_state.proofs.Sendings.{fanned_out_by}
use Rattle.broker_state.proofs.Walk.{CanBegin, Keeps, KeepsFrom}
use Rattle.broker_state.proofs.Weights.{all_mapped, copied_keeps}

-- the subscription is within its window
abbrev IsWithin : Subscription → Type 0
IsWithin sub = length sub.unacknowledged ≤ window_of sub.mode

-- no more are unacknowledged once some are settled
fewer_unsettled : (delivery : ℕ) (sub : Subscription) → length (settled_by delivery sub).unacknowledged ≤ length sub.unacknowledged
fewer_unsettled delivery sub = omega (arith, length-settled sub.mode delivery sub.unacknowledged)

-- one more is unacknowledged where there is room
pub within_delivered : (mode : AckMode) (unacknowledged : List (ℕ × Message)) (more : List (ℕ × Message)) → length more ≡ 1 → (if is_auto mode then true else nat_lt (length unacknowledged) 16) ≡ true → length unacknowledged ≤ window_of mode → length (if is_auto mode then unacknowledged else unacknowledged ++ more) ≤ window_of mode
within_delivered Auto unacknowledged more one room within = within
within_delivered Client unacknowledged more one room within =
    omega (arith, ltb-true (length unacknowledged) 16 room, length-append unacknowledged more, one)
within_delivered ClientIndividual unacknowledged more one room within =
    omega (arith, ltb-true (length unacknowledged) 16 room, length-append unacknowledged more, one)

has_place : (s : State) (sub : Subscription) → can_take s sub ≡ true → has_room sub ≡ true
has_place s sub ready =
    let p = and_parts (nat_lt s.next_delivery (2 ^ 63) && has_room sub) (not (is_none (line_for s.shared sub))) ready in
    (and_parts (nat_lt s.next_delivery (2 ^ 63)) (has_room sub) p.0).1

-- What is asked of the list of subscriptions, but that their sessions are open.
record AreFew (subs : List Subscription) : Type 0 where
  pub ids : (session : ℕ) (id : List ℕ) → count_by (is_named session id) subs ≤ 1
  pub few : (session : ℕ) → count_by (is_of session) subs ≤ 16
  pub window : AllByRecursion IsWithin subs

module _ (subs : List Subscription) (now : AreFew subs) where
  few_added : (session : ℕ) (id to : List ℕ) (mode : AckMode) (name : Option Name) → list_any (is_named session id) subs ≡ false → nat_le 16 (count_by (is_of session) subs) ≡ false → AreFew (subs ++ fresh session id to mode name ∷ [])
  few_added session id to mode name new few = record {
    ids = λ other text. count_added (is_named other text) subs one 1 (now.ids other text) (λ is. omega (arith, none other text is));
    few = λ other. count_added (is_of other) subs one 16 (now.few other) (λ is. omega (arith, fewer other is));
    window = all_push IsWithin subs one now.window (omega arith);
  }
    where
      one : Subscription
      one = fresh session id to mode name

      none : (other : ℕ) (text : List ℕ) → is_named other text one ≡ true → count_by (is_named other text) subs ≡ 0
      none other text is =
          let p = and_parts (other == session) (bytes_eq text id) is in
          ap (λ n. count_by (is_named n text) subs) (eqb-true other session p.0)
          ∙ ap (λ i. count_by (is_named session i) subs) ((bytes_eq-Decides text id).0 p.1) ∙ count_none (is_named session id) subs new

      fewer : (other : ℕ) → is_of other one ≡ true → count_by (is_of other) subs < 16
      fewer other is =
          omega (arith, ap (λ n. count_by (is_of n) subs) (eqb-true other session is), leb-false 16 (count_by (is_of session) subs) few)

  module _ (p : Subscription → Bool) (sub : Subscription) (others : List Subscription) (is : picked p subs ≡ Some (sub, others)) where
    few_left : AreFew others
    few_left = record {
      ids = λ session id. omega (arith, count_left (is_named session id) p subs sub others is, now.ids session id);
      few = λ session. omega (arith, count_left (is_of session) p subs sub others is, now.few session);
      window = (all_picked p subs sub others is IsWithin now.window).1;
    }

    few_behind : (other : Subscription) → other.session ≡ sub.session → other.id ≡ sub.id → IsWithin other → AreFew (others ++ other ∷ [])
    few_behind other session id within = record {
      ids = λ n text.
          omega (arith, count_behind (is_named n text) p subs sub others is other (ap (λ m. n == m && bytes_eq text other.id) session ∙ ap (λ t. n == sub.session && bytes_eq text t) id), now.ids n text);
      few = λ n. omega (arith, count_behind (is_of n) p subs sub others is other (ap (λ m. n == m) session), now.few n);
      window = all_push IsWithin others other (all_picked p subs sub others is IsWithin now.window).1 within;
    }

  few_acknowledged : (p : Subscription → Bool) (delivery : ℕ) → AreFew (with_first p (settled_by delivery) subs)
  few_acknowledged p delivery = record {
    ids = λ session id. omega (arith, sum_with_first (counted (is_named session id)) (settled_by delivery) (λ sub. refl) p subs, now.ids session id);
    few = λ session. omega (arith, sum_with_first (counted (is_of session)) (settled_by delivery) (λ sub. refl) p subs, now.few session);
    window = all_with_first p IsWithin (settled_by delivery) (λ sub passes within. omega (arith, fewer_unsettled delivery sub, within)) subs now.window;
  }

  few_copied : (m : Message) → AreFew (map (copied m) subs)
  few_copied m = record {
    ids = λ session id. omega (arith, sum_mapped (counted (is_named session id)) (copied m) (λ sub. copied_keeps (λ x. counted (is_named session id) x ≡ counted (is_named session id) sub) m sub refl refl) subs, now.ids session id);
    few = λ session. omega (arith, sum_mapped (counted (is_of session)) (copied m) (λ sub. copied_keeps (λ x. counted (is_of session) x ≡ counted (is_of session) sub) m sub refl refl) subs, now.few session);
    window = all_mapped IsWithin (copied m) (λ sub within. copied_keeps IsWithin m sub within within) subs now.window;
  }

whole : (s : State) → AllByRecursion (λ sub. is_open s sub.session ≡ true) s.subscriptions → AreFew s.subscriptions → HasSubscriptions s
whole s of_open are = record { of_open = of_open; ids = are.ids; few = are.few; window = are.window }

parts : (s : State) → HasSubscriptions s → AreFew s.subscriptions
parts s now = record { ids = now.ids; few = now.few; window = now.window }

-- the session that closes is not that of a subscription
pub another_session : (session : ℕ) (sub : Subscription) → is_of session sub ≡ false → is_eq (nat_cmp sub.session session) ≡ false
another_session session sub other = by (is_eq (nat_cmp sub.session session)) refl
  where
    by : (b : Bool) → is_eq (nat_cmp sub.session session) ≡ b → is_eq (nat_cmp sub.session session) ≡ false
    by true is =
        let same : sub.session ≡ session = exact_unsigned sub.session session (is_equal (nat_cmp sub.session session) is) in
        absurd (true≢false (sym (eq-eqb session sub.session (sym same)) ∙ other))
    by false is = is

module _ (number : ℕ) where
  limits_changes : Keeps (IsOrdered number) HasSubscriptions
  limits_changes = record {
    opened = λ s client_id earlier known now.
        whole (opened s client_id) (all_weaker (λ sub. is_open s sub.session ≡ true) (λ sub. is_open (opened s client_id) sub.session ≡ true) (λ sub is. some_inserted nat_cmp sub.session s.count client_id s.sessions is) s.subscriptions now.of_open) (parts s now);
    begun = λ s session id to mode can known now. added s session id to mode None can now;
    used = λ s session id to mode name can own topic free known now. added s session id to mode (Some name) can now;
    bound = λ s session id to mode name can own unknown few known now.
        let t = added s session id to mode (Some name) can now in
        record { of_open = t.of_open; ids = t.ids; few = t.few; window = t.window };
    without = λ s passes sub others is known now.
        whole (without s sub others) (all_picked passes s.subscriptions sub others is (λ x. is_open s x.session ≡ true) now.of_open).1 (few_left s.subscriptions (parts s now) passes sub others is);
    closed = λ s session none known now.
        whole (record s { sessions = remove_entry (is_at (nat_cmp session)) s.sessions }) (all_both (λ sub. is_open s sub.session ≡ true) (λ sub. is_of session sub ≡ false) (λ sub. is_some (lookup (is_at (nat_cmp sub.session)) (remove_entry (is_at (nat_cmp session)) s.sessions)) ≡ true) (λ sub is other. ap is_some (lookup_removed nat_cmp exact_unsigned sub.session session (another_session session sub other) s.sessions) ∙ is) s.subscriptions now.of_open none) (parts s now);
    forgotten = λ s name free known now. whole (forgotten s name) now.of_open (parts s now);
    acknowledged = λ s session delivery known now.
        whole (record s { subscriptions = with_first (awaits session delivery) (settled_by delivery) s.subscriptions }) (all_with_first (awaits session delivery) (λ sub. is_open s sub.session ≡ true) (settled_by delivery) (λ sub passes is. is) s.subscriptions now.of_open) (few_acknowledged s.subscriptions (parts s now) (awaits session delivery) delivery);
    handed = λ s sub others m rest is line known now.
        let open_now = all_picked (can_take s) s.subscriptions sub others is (λ x. is_open s x.session ≡ true) now.of_open in
        let within = (all_picked (can_take s) s.subscriptions sub others is IsWithin now.window).0 in
        let room = has_place s sub (picked_passes (can_take s) s.subscriptions sub others is) in
        let served = delivered (left_line sub rest) s.next_delivery m in
        whole (handed s sub others m rest).state (all_push (λ x. is_open s x.session ≡ true) others served open_now.1 open_now.0) (few_behind s.subscriptions (parts s now) (can_take s) sub others is served refl refl (within_delivered sub.mode sub.unacknowledged ((s.next_delivery, m) ∷ []) refl room within));
  }
    where
      added : (s : State) (session : ℕ) (id to : List ℕ) (mode : AckMode) (name : Option Name) → CanBegin s session id → HasSubscriptions s → HasSubscriptions (with_subscription s (fresh session id to mode name))
      added s session id to mode name can now =
          whole (with_subscription s (fresh session id to mode name)) (all_push (λ x. is_open s x.session ≡ true) s.subscriptions (fresh session id to mode name) now.of_open can.of_open) (few_added s.subscriptions (parts s now) session id to mode name can.new can.few)

  limits_fanned_out : (s : State) (m : Message) → HasSubscriptions s → HasSubscriptions (fanned_out s m)
  limits_fanned_out s m now = by (is_queue m.sending.destination)
    where
      by : (b : Bool) → HasSubscriptions (fanned_out_by s m b)
      by true = record { of_open = now.of_open; ids = now.ids; few = now.few; window = now.window }
      by false =
          whole (fanned_out_by s m false) (all_mapped (λ x. is_open s x.session ≡ true) (copied m) (λ sub is. copied_keeps (λ x. is_open s x.session ≡ true) m sub is is) s.subscriptions now.of_open) (few_copied s.subscriptions (parts s now) m)

  pub limits_from : KeepsFrom (IsOrdered number) (λ place. HasSubscriptions)
  limits_from = record {
    changes = λ place. limits_changes;
    next = λ place s known now. now;
    fanned_out = λ place s sending fits known now. limits_fanned_out s (message_of s.count place sending) now;
    refused = λ place s session delivery sub others is fits known now.
        let after = limits_changes.acknowledged s session delivery known now in
        record { of_open = after.of_open; ids = after.ids; few = after.few; window = after.window };
  }

-- the first state has none
pub empty_limits : HasSubscriptions empty_state
empty_limits = record { of_open = tt; ids = λ session id. omega arith; few = λ session. omega arith; window = tt }

-- a step keeps the limits of subscriptions, and so does a restart
pub step_limits : (rule : NackRule) (s : State) (c : CommandValue) → IsInOrder s → HasSubscriptions s → HasSubscriptions (step_by rule s c)
step_limits rule s c order now =
    let after = (led_in_order s order (λ place. HasSubscriptions) (limits_from s.count) rule c now).2 in
    record { of_open = after.of_open; ids = after.ids; few = after.few; window = after.window }

pub restarted_limits : (s : State) → IsInOrder s → HasSubscriptions s → HasSubscriptions (restarted s)
restarted_limits s order now =
    restarted_keeps_in_order s order HasSubscriptions (limits_changes s.count) now
