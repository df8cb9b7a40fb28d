use Rattle.std.proofs.Common.{◌≡◌, ◌<◌, ◌≤◌, ◌&&◌, ◌++◌, List, [], ◌∷◌, ℕ, Bool, true, false, true≢false, IfSome, IsSome, Option, Some, None, count_by, is_some, length, map, nat_le, refl, sym, ap, ◌∙◌, arith, if◌then◌else◌, unwrap_or}
use Rattle.std.specs.BTreeMap.{insert_entry, is_at}
use Rattle.std.specs.List.{AllByRecursion, list_any}
use Rattle.std.specs.Map.{lookup, remove_entry}
use Rattle.std.specs.Ordering.{is_eq, nat_cmp}
use Rattle.std.specs.Str.{bytes_eq}
use Rattle.std.proofs.lemmas.Bool.{leb-false}
use Rattle.std.proofs.lemmas.Map.Lookups.{exact_unsigned}
use Rattle.frame_core.proofs.Lists.{all_both, all_push, all_weaker}
use Rattle.command_core.specs.declared.command.AckMode.{AckMode}
use Rattle.command_core.specs.Commands.{CommandValue}
use Rattle.command_core.specs.Destinations.{is_queue}
use Rattle.line_core.specs.declared.message.Message.{Message}
use Rattle.broker_state.specs.declared.subscription.Subscription.{Subscription}
use Rattle.broker_state.specs.HandOut.{can_take, delivered, handed}
use Rattle.broker_state.specs.declared.nack_rule.NackRule.{NackRule}
use Rattle.broker_state.specs.Lists.{picked, with_first}
use Rattle.broker_state.specs.Names.{Name, name_cmp, text_cmp}
use Rattle.broker_state.specs.Operations.{awaits, client_in, copied, copied_to_names, forgotten, fresh, is_of, message_of, opened, restarted, settled_by, fanned_out, topic_of, uses, with_subscription, without}
use Rattle.broker_state.specs.Parts.{NonePass}
use Rattle.broker_state.specs.Sound.{HasNames, OwnsName}
use Rattle.broker_state.specs.States.{IsInOrder, State, empty_state}
use Rattle.broker_state.specs.Steps.{step_by}
use Rattle.broker_state.specs.Waiting.{Lines, Shared, left_from, left_line, returned_from, with_deliveries, with_line, with_message}
use Rattle.broker_state.proofs.Counts.{count_added, count_behind, count_left, count_none, counted, none_passes, sum_mapped, sum_with_first}
use Rattle.broker_state.proofs.Firsts.{any_none}
use Rattle.broker_state.proofs.KeyedLines.{absent-removed, keys-with_deliveries, keys-with_line, keys-with_message}
use Rattle.broker_state.proofs.Keys.{is_eq-name_cmp, name_itself, names_total, same_names}
use Rattle.broker_state.proofs.Lookups.{among_keys, each_has, is_equal, length-inserted, length-removed_entry, lookup_inserted, lookup_new, lookup_removed, none_found, other_way, some_inserted}
use Rattle.broker_state.proofs.Ordered.{IsOrdered, led_in_order, restarted_keeps_in_order}
use Rattle.broker_state.proofs.Picked.{all_picked, all_with_first}
use Rattle.broker_state.proofs.Restarts.{uses_by}
use Rattle.broker_state.proofs.Sendings.{fanned_out_by}
use Rattle.broker_state.proofs.SharedOrder.{AreRising}
use Rattle.broker_state.proofs.SortedEntries.{all_inserted, all_removed}
use Rattle.broker_state.proofs.SubscriptionLimits.{another_session}
use Rattle.broker_state.proofs.Walk.{CanUse, Keeps, KeepsFrom}
use Rattle.broker_state.proofs.Weights.{all_mapped, copied_keeps}

-- A durable name, where there is one, is one of the session's client, and bound to the topic.
abbrev Owns : List (ℕ × Option (List ℕ)) → List (Name × List ℕ) → ℕ → List ℕ → Option Name → Type 0
Owns sessions durables session to o =
    IfSome o (λ name. (client_in sessions session ≡ Some name.0) × (topic_of name durables ≡ Some to))

-- the client of a subscription with a durable name stays
abbrev KeepsClient : List (ℕ × Option (List ℕ)) → List (ℕ × Option (List ℕ)) → Subscription → Type 0
KeepsClient sessions after sub =
    (name : Name) → sub.durable ≡ Some name → client_in sessions sub.session ≡ Some name.0 → client_in after sub.session ≡ Some name.0

-- and its topic
abbrev KeepsTopic : List (Name × List ℕ) → List (Name × List ℕ) → Subscription → Type 0
KeepsTopic durables later sub =
    (name : Name) → sub.durable ≡ Some name → topic_of name durables ≡ Some sub.destination → topic_of name later ≡ Some sub.destination

-- it stays so where the client and the topic do
owns_still : (sessions after : List (ℕ × Option (List ℕ))) (durables later : List (Name × List ℕ)) (session : ℕ) (to : List ℕ) (o : Option Name) → ((name : Name) → o ≡ Some name → client_in sessions session ≡ Some name.0 → client_in after session ≡ Some name.0) → ((name : Name) → o ≡ Some name → topic_of name durables ≡ Some to → topic_of name later ≡ Some to) → Owns sessions durables session to o → Owns after later session to o
owns_still sessions after durables later session to None client topic owns = tt
owns_still sessions after durables later session to (Some name) client topic owns =
    (client name refl owns.0, topic name refl owns.1)

-- a session that has a client is among the sessions
session_known : (P : ℕ → Type 0) (sessions : List (ℕ × Option (List ℕ))) (session : ℕ) (client : List ℕ) → client_in sessions session ≡ Some client → AllByRecursion (λ (e : ℕ × Option (List ℕ)). P e.0) sessions → P session
session_known P sessions session client is all =
    among_keys nat_cmp exact_unsigned P session sessions (by (lookup (is_at (nat_cmp session)) sessions) is) all
  where
    by : (o : Option (Option (List ℕ))) → unwrap_or o None ≡ Some client → is_some o ≡ true
    by None is = absurd cc
    by (Some c) is = refl

same_used : (name other : Name) → (bytes_eq name.0 other.0 && bytes_eq name.1 other.1) ≡ true → name ≡ other
same_used name other is = same_names name other (is_equal (name_cmp name other) (is_eq-name_cmp name other ∙ is))

-- a name that is not used differs from the one that is
other_used : (name other : Name) (o : Option Name) → o ≡ Some other → uses_by name o ≡ false → is_eq (name_cmp other name) ≡ false
other_used name other o is free =
    other_way name_cmp same_names name other (is_eq-name_cmp name other ∙ sym (ap (uses_by name) is) ∙ free)

-- nobody uses a name that isn't bound
none_use : (name : Name) (sessions : List (ℕ × Option (List ℕ))) (durables : List (Name × List ℕ)) → topic_of name durables ≡ None → (session : ℕ) (to : List ℕ) (o : Option Name) → Owns sessions durables session to o → uses_by name o ≡ false
none_use name sessions durables unknown session to None owns = refl
none_use name sessions durables unknown session to (Some other) owns =
    by (bytes_eq name.0 other.0 && bytes_eq name.1 other.1) refl
  where
    by : (b : Bool) → (bytes_eq name.0 other.0 && bytes_eq name.1 other.1) ≡ b → b ≡ false
    by true is = let bad : topic_of name durables ≡ Some to = ap (λ n. topic_of n durables) (same_used name other is) ∙ owns.1 in absurd (let no : None ≡ Some to = sym unknown ∙ bad in cc)
    by false is = refl

-- What is asked of durable names and their lines.
record AreBound (durables : List (Name × List ℕ)) (names : Lines Name) : Type 0 where
  pub few : length durables ≤ 256
  pub topics : AllByRecursion (λ durable. is_queue durable.1 ≡ false) durables
  pub lines : AllByRecursion (λ line. IsSome (topic_of line.0 durables)) names

-- And of those who use them.
record AreUsed (sessions : List (ℕ × Option (List ℕ))) (durables : List (Name × List ℕ)) (subs : List Subscription) : Type 0 where
  pub own : AllByRecursion (λ sub. Owns sessions durables sub.session sub.destination sub.durable) subs
  pub once : (name : Name) → count_by (uses name) subs ≤ 1

whole : (s : State) → AreBound s.durables s.shared.names → AreUsed s.sessions s.durables s.subscriptions → HasNames s
whole s bound used = record { few = bound.few; topics = bound.topics; own = used.own; once = used.once; lines = bound.lines }

bound_in : (s : State) → HasNames s → AreBound s.durables s.shared.names
bound_in s now = record { few = now.few; topics = now.topics; lines = now.lines }

used_in : (s : State) → HasNames s → AreUsed s.sessions s.durables s.subscriptions
used_in s now = record { own = now.own; once = now.once }

module _ (sessions : List (ℕ × Option (List ℕ))) (durables : List (Name × List ℕ)) (subs : List Subscription) (now : AreUsed sessions durables subs) where
  abbrev Has : Subscription → Type 0
  Has sub = Owns sessions durables sub.session sub.destination sub.durable

  -- one more uses a name that nobody has used, or none
  used_added : (sub : Subscription) → Has sub → ((name : Name) → uses name sub ≡ true → list_any (uses name) subs ≡ false) → AreUsed sessions durables (subs ++ sub ∷ [])
  used_added sub has free = record {
    own = all_push Has subs sub now.own has;
    once = λ name. count_added (uses name) subs sub 1 (now.once name) (λ is. omega (arith, count_none (uses name) subs (free name is)));
  }

  module _ (p : Subscription → Bool) (sub : Subscription) (others : List Subscription) (is : picked p subs ≡ Some (sub, others)) where
    used_left : AreUsed sessions durables others
    used_left = record {
      own = (all_picked p subs sub others is Has now.own).1;
      once = λ name. omega (arith, count_left (uses name) p subs sub others is, now.once name);
    }

    used_behind : (m : Message) (rest : List Message) (delivery : ℕ) → AreUsed sessions durables (others ++ delivered (left_line sub rest) delivery m ∷ [])
    used_behind m rest delivery = record {
      own = all_push Has others (delivered (left_line sub rest) delivery m) (all_picked p subs sub others is Has now.own).1 (all_picked p subs sub others is Has now.own).0;
      once = λ name. omega (arith, count_behind (uses name) p subs sub others is (delivered (left_line sub rest) delivery m) refl, now.once name);
    }

  used_acknowledged : (p : Subscription → Bool) (delivery : ℕ) → AreUsed sessions durables (with_first p (settled_by delivery) subs)
  used_acknowledged p delivery = record {
    own = all_with_first p Has (settled_by delivery) (λ sub passes has. has) subs now.own;
    once = λ name. omega (arith, sum_with_first (counted (uses name)) (settled_by delivery) (λ sub. refl) p subs, now.once name);
  }

  used_copied : (m : Message) → AreUsed sessions durables (map (copied m) subs)
  used_copied m = record {
    own = all_mapped Has (copied m) (λ sub has. copied_keeps Has m sub has has) subs now.own;
    once = λ name. omega (arith, sum_mapped (counted (uses name)) (copied m) (λ sub. copied_keeps (λ x. counted (uses name) x ≡ counted (uses name) sub) m sub refl refl) subs, now.once name);
  }

  -- the clients of those that are used stay
  used_in_sessions : (after : List (ℕ × Option (List ℕ))) → AllByRecursion (KeepsClient sessions after) subs → AreUsed after durables subs
  used_in_sessions after stay = record {
    own = all_both (KeepsClient sessions after) Has (λ sub. Owns after durables sub.session sub.destination sub.durable) (λ sub same has. owns_still sessions after durables durables sub.session sub.destination sub.durable same (λ name is topic. topic) has) subs stay now.own;
    once = now.once;
  }

  -- and so do their topics
  used_in_durables : (later : List (Name × List ℕ)) → AllByRecursion (KeepsTopic durables later) subs → AreUsed sessions later subs
  used_in_durables later stay = record {
    own = all_both (KeepsTopic durables later) Has (λ sub. Owns sessions later sub.session sub.destination sub.durable) (λ sub same has. owns_still sessions sessions durables later sub.session sub.destination sub.durable (λ name is client. client) same has) subs stay now.own;
    once = now.once;
  }

-- lines of bound names stay so where one is left, put back or gets a message
module _ (durables : List (Name × List ℕ)) where
  abbrev Known : Name → Type 0
  Known name = IsSome (topic_of name durables)

  abbrev AreKnown : Lines Name → Type 0
  AreKnown names = AllByRecursion (λ line. Known line.0) names

  known_of : (sessions : List (ℕ × Option (List ℕ))) (session : ℕ) (to : List ℕ) (name : Name) → Owns sessions durables session to (Some name) → Known name
  known_of sessions session to name owns = ap is_some owns.1

  known_left : (shared : Shared) (sub : Subscription) (rest : List Message) (sessions : List (ℕ × Option (List ℕ))) (o : Option Name) → Owns sessions durables sub.session sub.destination o → AreKnown shared.names → AreKnown (left_from shared sub rest o).names
  known_left shared sub rest sessions (Some name) owns all =
      keys-with_line name_cmp Known name (known_of sessions sub.session sub.destination name owns) rest shared.names all
  known_left shared sub rest sessions None owns all = by (is_queue sub.destination)
    where
      by : (b : Bool) → AreKnown (if b then record shared { queues = with_line text_cmp sub.destination rest shared.queues } else shared).names
      by true = all
      by false = all

  known_returned : (shared : Shared) (sub : Subscription) (sessions : List (ℕ × Option (List ℕ))) (o : Option Name) → Owns sessions durables sub.session sub.destination o → AreKnown shared.names → AreKnown (returned_from shared sub o).names
  known_returned shared sub sessions (Some name) owns all =
      keys-with_deliveries name_cmp Known name (known_of sessions sub.session sub.destination name owns) sub.unacknowledged shared.names all
  known_returned shared sub sessions None owns all = by (is_queue sub.destination)
    where
      by : (b : Bool) → AreKnown (if b then record shared { queues = with_deliveries text_cmp sub.destination sub.unacknowledged shared.queues } else shared).names
      by true = all
      by false = all

  known_copied : (m : Message) (some : List (Name × List ℕ)) → AllByRecursion (λ (durable : Name × List ℕ). Known durable.0) some → (names : Lines Name) → AreKnown names → AreKnown (copied_to_names m some names)
  known_copied m [] known names all = all
  known_copied m (durable ∷ some) known names all =
      known_copied m some known.1 (if bytes_eq durable.1 m.sending.destination then with_message name_cmp durable.0 m names else names) (by (bytes_eq durable.1 m.sending.destination))
    where
      by : (b : Bool) → AreKnown (if b then with_message name_cmp durable.0 m names else names)
      by true = keys-with_message name_cmp Known durable.0 known.0 m names all
      by false = all

-- what holds of everything holds of each
of_each : {X : Type 0} (P : X → Type 0) → ((x : X) → P x) → (xs : List X) → AllByRecursion P xs
of_each P has [] = tt
of_each P has (x ∷ xs) = (has x, of_each P has xs)

another_number : (a b : ℕ) → a < b → is_eq (nat_cmp a b) ≡ false
another_number a b less = by (is_eq (nat_cmp a b)) refl
  where
    by : (r : Bool) → is_eq (nat_cmp a b) ≡ r → is_eq (nat_cmp a b) ≡ false
    by true is = absurd (omega (arith, exact_unsigned a b (is_equal (nat_cmp a b) is), less))
    by false is = is

module _ (s : State) (now : HasNames s) where
  names_opened : (client_id : Option (List ℕ)) → AllByRecursion (λ session. session.0 < s.count) s.sessions → HasNames (opened s client_id)
  names_opened client_id earlier =
      whole (opened s client_id) (bound_in s now) (used_in_sessions s.sessions s.durables s.subscriptions (used_in s now) (insert_entry nat_cmp s.sessions s.count client_id) (of_each (KeepsClient s.sessions (insert_entry nat_cmp s.sessions s.count client_id)) (λ sub name is client. let less : sub.session < s.count = session_known (λ n. n < s.count) s.sessions sub.session name.0 client earlier in ap (λ o. unwrap_or o None) (lookup_inserted nat_cmp exact_unsigned sub.session s.count (another_number sub.session s.count less) client_id s.sessions) ∙ client) s.subscriptions))

  names_closed : (session : ℕ) → NonePass (is_of session) s.subscriptions → HasNames (record s { sessions = remove_entry (is_at (nat_cmp session)) s.sessions })
  names_closed session none =
      whole (record s { sessions = remove_entry (is_at (nat_cmp session)) s.sessions }) (bound_in s now) (used_in_sessions s.sessions s.durables s.subscriptions (used_in s now) (remove_entry (is_at (nat_cmp session)) s.sessions) (all_weaker (λ sub. is_of session sub ≡ false) (KeepsClient s.sessions (remove_entry (is_at (nat_cmp session)) s.sessions)) (λ sub other name is client. ap (λ o. unwrap_or o None) (lookup_removed nat_cmp exact_unsigned sub.session session (another_session session sub other) s.sessions) ∙ client) s.subscriptions none))

  names_begun : (session : ℕ) (id to : List ℕ) (mode : AckMode) → HasNames (with_subscription s (fresh session id to mode None))
  names_begun session id to mode =
      whole (with_subscription s (fresh session id to mode None)) (bound_in s now) (used_added s.sessions s.durables s.subscriptions (used_in s now) (fresh session id to mode None) tt (λ name is. absurd (true≢false (sym is))))

  module _ (session : ℕ) (id to : List ℕ) (mode : AckMode) (name : Name) (can : CanUse s session to name) where
    names_used : topic_of name s.durables ≡ Some to → list_any (uses name) s.subscriptions ≡ false → HasNames (with_subscription s (fresh session id to mode (Some name)))
    names_used topic free =
        whole (with_subscription s (fresh session id to mode (Some name))) (bound_in s now) (used_added s.sessions s.durables s.subscriptions (used_in s now) (fresh session id to mode (Some name)) (can.own, topic) (λ other is. ap (λ n. list_any (uses n) s.subscriptions) (same_used other name is) ∙ free))

    module _ (unknown : topic_of name s.durables ≡ None) where
      abbrev later : List (Name × List ℕ)
      later = insert_entry name_cmp s.durables name to

      another_name : (n : Name) (topic : List ℕ) → topic_of n s.durables ≡ Some topic → is_eq (name_cmp n name) ≡ false
      another_name n topic is = by (is_eq (name_cmp n name)) refl
        where
          by : (b : Bool) → is_eq (name_cmp n name) ≡ b → is_eq (name_cmp n name) ≡ false
          by true same =
              let bad : None ≡ Some topic = sym unknown ∙ sym (ap (λ x. topic_of x s.durables) (same_names n name (is_equal (name_cmp n name) same))) ∙ is in
              absurd cc
          by false other = other

      still_bound : nat_le 256 (length s.durables) ≡ false → AreBound later s.shared.names
      still_bound few = record {
        few = omega (arith, length-inserted name_cmp name to s.durables, leb-false 256 (length s.durables) few);
        topics = all_inserted (λ durable. is_queue durable.1 ≡ false) name_cmp name to can.topic (λ e was. can.topic) s.durables now.topics;
        lines = all_weaker (λ line. IsSome (topic_of line.0 s.durables)) (λ line. IsSome (topic_of line.0 later)) (λ line some. some_inserted name_cmp line.0 name to s.durables some) s.shared.names now.lines;
      }

      still_used : AreUsed s.sessions later s.subscriptions
      still_used =
          used_in_durables s.sessions s.durables s.subscriptions (used_in s now) later (of_each (KeepsTopic s.durables later) (λ sub n is topic. lookup_inserted name_cmp same_names n name (another_name n sub.destination topic) to s.durables ∙ topic) s.subscriptions)

      free_yet : list_any (uses name) s.subscriptions ≡ false
      free_yet =
          any_none (uses name) s.subscriptions (all_weaker (OwnsName s) (λ sub. uses name sub ≡ false) (λ sub owns. none_use name s.sessions s.durables unknown sub.session sub.destination sub.durable owns) s.subscriptions now.own)

      names_bound : nat_le 256 (length s.durables) ≡ false → HasNames (with_subscription (record s { durables = later }) (fresh session id to mode (Some name)))
      names_bound few =
          whole (with_subscription (record s { durables = later }) (fresh session id to mode (Some name))) (still_bound few) (used_added s.sessions later s.subscriptions still_used (fresh session id to mode (Some name)) (can.own, lookup_new name_cmp name to s.durables (name_itself name)) (λ other is. ap (λ n. list_any (uses n) s.subscriptions) (same_used other name is) ∙ free_yet))

  names_without : (p : Subscription → Bool) (sub : Subscription) (others : List Subscription) → picked p s.subscriptions ≡ Some (sub, others) → HasNames (without s sub others)
  names_without p sub others is =
      let owns = (all_picked p s.subscriptions sub others is (OwnsName s) now.own).0 in
      whole (without s sub others) (record { few = now.few; topics = now.topics; lines = known_returned s.durables s.shared sub s.sessions sub.durable owns now.lines }) (used_left s.sessions s.durables s.subscriptions (used_in s now) p sub others is)

  names_handed : (sub : Subscription) (others : List Subscription) (m : Message) (rest : List Message) → picked (can_take s) s.subscriptions ≡ Some (sub, others) → HasNames (handed s sub others m rest).state
  names_handed sub others m rest is =
      let owns = (all_picked (can_take s) s.subscriptions sub others is (OwnsName s) now.own).0 in
      whole (handed s sub others m rest).state (record { few = now.few; topics = now.topics; lines = known_left s.durables s.shared sub rest s.sessions sub.durable owns now.lines }) (used_behind s.sessions s.durables s.subscriptions (used_in s now) (can_take s) sub others is m rest s.next_delivery)

  names_forgotten : (name : Name) → list_any (uses name) s.subscriptions ≡ false → AreRising s.shared → HasNames (forgotten s name)
  names_forgotten name free rising = whole (forgotten s name) fewer_bound (used_in_durables s.sessions s.durables s.subscriptions (used_in s now) less stay)
    where
      less : List (Name × List ℕ)
      less = remove_entry (is_at (name_cmp name)) s.durables

      left : Lines Name
      left = remove_entry (is_at (name_cmp name)) s.shared.names

      stay : AllByRecursion (KeepsTopic s.durables less) s.subscriptions
      stay =
          all_weaker (λ sub. uses name sub ≡ false) (KeepsTopic s.durables less) (λ sub other n is topic. lookup_removed name_cmp same_names n name (other_used name n sub.durable is other) s.durables ∙ topic) s.subscriptions (none_passes (uses name) s.subscriptions free)

      others : AllByRecursion (λ line. is_eq (name_cmp name line.0) ≡ false) left
      others = none_found name_cmp name left (absent-removed name_cmp names_total same_names name s.shared.names rising.names)

      fewer_bound : AreBound less left
      fewer_bound = record {
        few = omega (arith, length-removed_entry (is_at (name_cmp name)) s.durables, now.few);
        topics = all_removed (λ durable. is_queue durable.1 ≡ false) (is_at (name_cmp name)) s.durables now.topics;
        lines = all_both (λ line. is_eq (name_cmp name line.0) ≡ false) (λ line. IsSome (topic_of line.0 s.durables)) (λ line. IsSome (topic_of line.0 less)) (λ line other some. ap is_some (lookup_removed name_cmp same_names line.0 name (other_way name_cmp same_names name line.0 other) s.durables) ∙ some) left others (all_removed (λ line. IsSome (topic_of line.0 s.durables)) (is_at (name_cmp name)) s.shared.names now.lines);
      }

  names_acknowledged : (p : Subscription → Bool) (delivery : ℕ) → HasNames (record s { subscriptions = with_first p (settled_by delivery) s.subscriptions })
  names_acknowledged p delivery =
      whole (record s { subscriptions = with_first p (settled_by delivery) s.subscriptions }) (bound_in s now) (used_acknowledged s.sessions s.durables s.subscriptions (used_in s now) p delivery)

  names_fanned_out : (m : Message) → HasNames (fanned_out s m)
  names_fanned_out m = by (is_queue m.sending.destination)
    where
      by : (b : Bool) → HasNames (fanned_out_by s m b)
      by true = whole (fanned_out_by s m true) (bound_in s now) (used_in s now)
      by false =
          whole (fanned_out_by s m false) (record { few = now.few; topics = now.topics; lines = known_copied s.durables m s.durables (each_has name_cmp name_itself s.durables) s.shared.names now.lines }) (used_copied s.sessions s.durables s.subscriptions (used_in s now) m)

module _ (number : ℕ) where
  pub names_changes : Keeps (IsOrdered number) HasNames
  names_changes = record {
    opened = λ s client_id earlier known now. names_opened s now client_id earlier;
    begun = λ s session id to mode can known now. names_begun s now session id to mode;
    used = λ s session id to mode name can own topic free known now.
        names_used s now session id to mode name own topic free;
    bound = λ s session id to mode name can own unknown few known now.
        names_bound s now session id to mode name own unknown few;
    without = λ s passes sub others is known now. names_without s now passes sub others is;
    closed = λ s session none known now. names_closed s now session none;
    forgotten = λ s name free known now. names_forgotten s now name free known.order;
    acknowledged = λ s session delivery known now. names_acknowledged s now (awaits session delivery) delivery;
    handed = λ s sub others m rest is line known now. names_handed s now sub others m rest is;
  }

  pub names_from : KeepsFrom (IsOrdered number) (λ place. HasNames)
  names_from = record {
    changes = λ place. names_changes;
    next = λ place s known now. now;
    fanned_out = λ place s sending fits known now. names_fanned_out s now (message_of s.count place sending);
    refused = λ place s session delivery sub others is fits known now.
        let after = names_acknowledged s now (awaits session delivery) delivery in
        record { few = after.few; topics = after.topics; own = after.own; once = after.once; lines = after.lines };
  }

-- no name is bound at first
pub empty_names : HasNames empty_state
empty_names = record { few = omega arith; topics = tt; own = tt; once = λ name. omega arith; lines = tt }

-- a step keeps what is asked of durable names, and so does a restart
pub step_names : (rule : NackRule) (s : State) (c : CommandValue) → IsInOrder s → HasNames s → HasNames (step_by rule s c)
step_names rule s c order now =
    let after = (led_in_order s order (λ place. HasNames) (names_from s.count) rule c now).2 in
    record { few = after.few; topics = after.topics; own = after.own; once = after.once; lines = after.lines }

pub restarted_names : (s : State) → IsInOrder s → HasNames s → HasNames (restarted s)
restarted_names s order now = restarted_keeps_in_order s order HasNames (names_changes s.count) now
