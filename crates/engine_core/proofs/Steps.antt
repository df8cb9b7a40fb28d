-- What a command changes of what sessions take.
use Rattle.std.proofs.Common.{◌≡◌, ◌≤◌, ◌+◌, ◌==◌, ◌&&◌, List, [], ◌∷◌, ℕ, Bool, true, false, not, Option, Some, None, Result, Ok, Err, cond, count_by, filter, is_some, length, nat_le, refl, sym, ap, subst, arith, if◌then◌else◌}
use Rattle.std.specs.BTreeMap.{insert_entry, is_at}
use Rattle.std.specs.List.{list_any, sum_by}
use Rattle.std.specs.Ordering.{nat_cmp}
use Rattle.std.specs.Str.{bytes_eq}
use Rattle.std.proofs.lemmas.Bool.{eqb-true}
use Rattle.std.proofs.lemmas.List.Sums.{sum_by-cons, sum_by_push}
use Rattle.command_core.specs.declared.command.AckMode.{AckMode}
use Rattle.command_core.specs.Destinations.{is_queue}
use Rattle.command_core.specs.Sendings.{SendingValue}
use Rattle.command_core.specs.declared.command.Op.TheVariants.{Subscribe}
use Rattle.command_core.specs.declared.fault.Fault.{Fault}
use Rattle.command_core.specs.declared.fault.Fault.TheVariants.{DurableSubscription, NoRoom, SubscriptionIdInUse, TooManyEntries, UnknownAcknowledgement}
use Rattle.command_core.specs.declared.command.Member.{Member}
use Rattle.command_core.specs.declared.command.Member.TheVariants as members
use Rattle.line_core.specs.declared.message.Message.{Message}
use Rattle.broker_state.specs.declared.nack_rule.NackRule.{NackRule}
use Rattle.broker_state.specs.declared.nack_rule.NackRule.TheVariants as nack
use Rattle.broker_state.specs.declared.subscription.Subscription.{Subscription}
use Rattle.broker_state.specs.Dead.{keeping, keeping_from, kept_by_nack, nacked}
use Rattle.broker_state.specs.Executing.{applied, committed}
use Rattle.broker_state.specs.HandOut.{Handed, can_take, delivered, hand_out, settled, waiting}
use Rattle.broker_state.specs.Lists.{picked, with_first}
use Rattle.broker_state.specs.Names.{Name, name_cmp}
use Rattle.broker_state.specs.Operations.{acknowledged, awaits, begun_by, begun_for, bound, client_of, copied, ended, ended_one, fanned_out, forgotten, fresh, given_up_for, is_named, is_of, is_within, message_of, name_for, named, opened, or_same, sent, settled_by, subscribed, topic_of, unsubscribed, unsubscribed_by, used_again, uses, with_subscription, without_named}
use Rattle.broker_state.specs.Parts.{NonePass}
use Rattle.broker_state.specs.States.{State}
use Rattle.broker_state.specs.Steps.{accepted_or_ended}
use Rattle.broker_state.specs.Waiting.{left_line}
use Rattle.broker_state.proofs.Sendings.{fanned_out_by}
use Rattle.broker_state.proofs.Weights.{copied_keeps}
use Rattle.broker_state.proofs.Counts.{sum_mapped, sum_with_first}
use Rattle.broker_state.proofs.Deliveries.{made, settling_keeps, sum_picked}
use Rattle.broker_state.proofs.Picked.{picked_nothing}
use Rattle.broker_state.proofs.Walk.{Gives}
use Rattle.clients.specs.Footprints.{parts_of}
use Rattle.engine_core.specs.Sessions.{subscribing_of}
use Rattle.engine_core.proofs.Taken.{Ids, all_others, less_filtered, less_removed, more_inserted, none_left, of_session, of_subscription, others, taken, weight}

-- No session takes more of the state than that.
module _ (most : Ids → ℕ → ℕ) where
  abbrev pub Under : State → Type 0
  Under s = (ids : Ids) (n : ℕ) → taken ids n s ≤ most ids n

  pub under_acknowledged : (s : State) (session delivery : ℕ) → Under s → Gives Under (acknowledged s session delivery)
  under_acknowledged s session delivery now = by (list_any (awaits session delivery) s.subscriptions)
    where
      by : (b : Bool) → Gives Under (if b then Ok (record s { subscriptions = with_first (awaits session delivery) (settled_by delivery) s.subscriptions }) else Err UnknownAcknowledgement)
      by true = λ ids n. omega (arith, now ids n, sum_with_first (of_subscription ids n) (settled_by delivery) (λ x. refl) (awaits session delivery) s.subscriptions)
      by false = tt

  under_room : (s : State) → Under s → Gives Under (if is_within s then Ok s else Err NoRoom)
  under_room s now = by (is_within s)
    where
      by : (b : Bool) → Gives Under (if b then Ok s else Err NoRoom)
      by true = now
      by false = tt

  under_keeping : (ms : List Message) (r : Result State Fault) → Gives Under r → Gives Under (keeping_from ms r)
  under_keeping ms (Ok t) now = under_room (keeping ms t) now
  under_keeping ms (Err fault) now = tt

  pub under_nacked : (rule : NackRule) (s : State) (session place delivery : ℕ) → Under s → Gives Under (nacked rule s session place delivery)
  under_nacked nack.Drops s session place delivery now = under_acknowledged s session delivery now
  under_nacked nack.Keeps s session place delivery now =
      under_keeping (kept_by_nack s session place delivery) (acknowledged s session delivery) (under_acknowledged s session delivery now)

  under_fanned_out : (s : State) (m : Message) → Under s → Under (fanned_out s m)
  under_fanned_out s m now = by (is_queue m.sending.destination)
    where
      by : (b : Bool) → Under (fanned_out_by s m b)
      by true = now
      by false = λ ids n.
          omega (arith, now ids n, sum_mapped (of_subscription ids n) (copied m) (λ sub. copied_keeps (λ x. of_subscription ids n x ≡ of_subscription ids n sub) m sub refl refl) s.subscriptions)

  pub under_sent : (s : State) (place : ℕ) (sending : SendingValue) → Under s → Gives Under (sent s place sending)
  under_sent s place sending now =
      under_room (fanned_out s (message_of s.count place sending)) (under_fanned_out s (message_of s.count place sending) now)

  under_applied : (rule : NackRule) (s : State) (session place : ℕ) (m : Member) → Under s → Gives Under (applied rule s session place m)
  under_applied rule s session place (members.Send sending) now = under_sent s place sending now
  under_applied rule s session place (members.Ack delivery) now = under_acknowledged s session delivery now
  under_applied rule s session place (members.Nack delivery) now = under_nacked rule s session place delivery now

  pub under_committed : (rule : NackRule) (s : State) (session place : ℕ) (ms : List Member) → Under s → Gives Under (committed rule s session place ms)
  under_committed rule s session place [] now = now
  under_committed rule s session place (m ∷ ms) now =
      by (λ t after. under_committed rule t session (place + 1) ms after) (applied rule s session place m) (under_applied rule s session place m now)
    where
      by : ((t : State) → Under t → Gives Under (committed rule t session (place + 1) ms)) → (r : Result State Fault) → Gives Under r → Gives Under (elim r as (λ x. Result State Fault) [ Ok t ↦ committed rule t session (place + 1) ms | Err fault ↦ Err fault ])
      by rest (Ok t) after = rest t after
      by rest (Err fault) after = tt

  -- an end takes from its session, and from no other
  pub under_ended : (s : State) (session : ℕ) → Under s → Under (ended s session)
  under_ended s session now ids n =
      omega (arith, now ids n, less_removed (of_session ids n) (is_at (nat_cmp session)) s.sessions, less_filtered (of_subscription ids n) (λ sub. not (is_of session sub)) s.subscriptions)

  under_handed : (s : State) (h : Handed) → hand_out s ≡ Some h → Under s → Under h.state
  under_handed s h is now =
      let q = made s h is in
      subst (λ (g : Handed). Under g.state) (sym q.handed_is) (λ ids n. omega (arith, now ids n, sum_picked (can_take s) (of_subscription ids n) s.subscriptions q.sub q.others q.is_picked, sum_by_push (of_subscription ids n) q.others (delivered (left_line q.sub q.rest) s.next_delivery q.m)))

  pub under_settled : (s : State) → Under s → Under (settled s).state
  under_settled s now = settling_keeps Under under_handed (waiting s) s now

  under_given_up : (s : State) (client : Option (List ℕ)) (name : List ℕ) → Under s → Gives Under (given_up_for s client name)
  under_given_up s None name now = tt
  under_given_up s (Some client) name now =
      by (is_some (topic_of (client, name) s.durables) && not (list_any (uses (client, name)) s.subscriptions))
    where
      by : (b : Bool) → Gives Under (if b then Ok (forgotten s (client, name)) else Err DurableSubscription)
      by true = now
      by false = tt

  -- a refusal ends its session
  pub under_or_ended : (s : State) (session : ℕ) (r : Result State Fault) → Under (ended s session) → Gives Under r → Under (accepted_or_ended s session r)
  under_or_ended s session (Ok t) after now = now
  under_or_ended s session (Err fault) after now = after

-- A session opens.
pub under_opened : (s : State) (client : Option (List ℕ)) → Under (λ ids n. of_session ids n (s.count, client) + taken ids n s) (opened s client)
under_opened s client ids n = omega (arith, more_inserted (of_session ids n) s.count client s.sessions)

-- A subscription begins.
smaller : (b : Bool) (x y : ℕ) → x ≤ y → cond b x 0 ≤ cond b y 0
smaller true x y less = less
smaller false x y less = omega arith

at_id : (b : Bool) (x y : ℕ) → x ≤ y → 0 + cond b x 0 ≤ 0 + cond b y 0
at_id true x y less = omega (arith, less)
at_id false x y less = omega arith

plain_weight : (ids : Ids) (session : ℕ) (id to : List ℕ) (mode : AckMode) (durable : Option (List ℕ)) → weight ids (parts_of (subscribing_of (fresh session id to mode None))) ≤ weight ids (parts_of (Subscribe id to mode durable))
plain_weight ids session id to mode None = omega arith
plain_weight ids session id to mode (Some text) = at_id (ids (Some id)) _ _ (omega arith)

module _ (s : State) (session : ℕ) (id to : List ℕ) (mode : AckMode) where
  -- what a session takes, with what its SUBSCRIBE adds
  abbrev pub with_it : Option (List ℕ) → Ids → ℕ → ℕ
  with_it durable ids n = taken ids n s + cond (n == session) (weight ids (parts_of (Subscribe id to mode durable))) 0

  begun_with : (name : Option Name) (durable : Option (List ℕ)) → ((ids : Ids) → weight ids (parts_of (subscribing_of (fresh session id to mode name))) ≤ weight ids (parts_of (Subscribe id to mode durable))) → Under (with_it durable) (with_subscription s (fresh session id to mode name))
  begun_with name durable less ids n =
      omega (arith, sum_by_push (of_subscription ids n) s.subscriptions (fresh session id to mode name), smaller (n == session) (weight ids (parts_of (subscribing_of (fresh session id to mode name)))) (weight ids (parts_of (Subscribe id to mode durable))) (less ids))

  under_plain : (durable : Option (List ℕ)) → Under (with_it durable) (with_subscription s (fresh session id to mode None))
  under_plain durable = begun_with None durable (λ ids. plain_weight ids session id to mode durable)

  module _ (client text : List ℕ) where
    abbrev name : Name
    name = (client, text)

    under_named : Under (with_it (Some text)) (with_subscription s (fresh session id to mode (Some name)))
    under_named = begun_with (Some name) (Some text) (λ ids. omega arith)

    under_bound : Gives (Under (with_it (Some text))) (bound s (fresh session id to mode (Some name)) name)
    under_bound = by (nat_le 256 (length s.durables))
      where
        by : (b : Bool) → Gives (Under (with_it (Some text))) (if b then Err TooManyEntries else Ok (with_subscription (record s { durables = insert_entry name_cmp s.durables name to }) (fresh session id to mode (Some name))))
        by true = tt
        by false = under_named

    under_used : (topic : List ℕ) → Gives (Under (with_it (Some text))) (used_again s (fresh session id to mode (Some name)) name topic)
    under_used topic = by (bytes_eq topic to && not (list_any (uses name) s.subscriptions))
      where
        by : (b : Bool) → Gives (Under (with_it (Some text))) (if b then Ok (with_subscription s (fresh session id to mode (Some name))) else Err DurableSubscription)
        by true = under_named
        by false = tt

    under_begun_by : Gives (Under (with_it (Some text))) (begun_by s (fresh session id to mode (Some name)) (Some name))
    under_begun_by = by (topic_of name s.durables)
      where
        by : (o : Option (List ℕ)) → Gives (Under (with_it (Some text))) (elim o as (λ x. Result State Fault) [ None ↦ bound s (fresh session id to mode (Some name)) name | Some topic ↦ used_again s (fresh session id to mode (Some name)) name topic ])
        by None = under_bound
        by (Some topic) = under_used topic

  under_client : (client : Option (List ℕ)) (text : List ℕ) → Gives (Under (with_it (Some text))) (begun_for s session id to mode (named client text))
  under_client None text = tt
  under_client (Some client) text = under_begun_by client text

  under_begun : (durable : Option (List ℕ)) → Gives (Under (with_it durable)) (begun_for s session id to mode (name_for (client_of s session) to durable))
  under_begun None = under_plain None
  under_begun (Some text) = by (is_queue to)
    where
      by : (b : Bool) → Gives (Under (with_it (Some text))) (begun_for s session id to mode (if b then Ok None else named (client_of s session) text))
      by true = under_plain (Some text)
      by false = under_client (client_of s session) text

  pub under_subscribed : (durable : Option (List ℕ)) → Gives (Under (with_it durable)) (subscribed s session id to mode durable)
  under_subscribed durable = by (list_any (is_named session id) s.subscriptions) (nat_le 16 (count_by (is_of session) s.subscriptions))
    where
      by : (a b : Bool) → Gives (Under (with_it durable)) (if a then Err SubscriptionIdInUse else (if b then Err TooManyEntries else begun_for s session id to mode (name_for (client_of s session) to durable)))
      by true b = tt
      by false true = tt
      by false false = under_begun durable

-- A subscription ends.
none_of : (n : ℕ) (ids : Ids) (subs : List Subscription) → sum_by (of_subscription ids n) (filter (λ sub. not (is_of n sub)) subs) ≡ 0
none_of n ids [] = refl
none_of n ids (sub ∷ subs) = by (is_of n sub) refl (none_of n ids subs)
  where
    left : List Subscription
    left = filter (λ x. not (is_of n x)) subs

    by : (b : Bool) → is_of n sub ≡ b → sum_by (of_subscription ids n) left ≡ 0 → sum_by (of_subscription ids n) (cond (not b) (sub ∷ left) left) ≡ 0
    by true is rest = rest
    by false is rest =
        omega (arith, rest, sum_by-cons (of_subscription ids n) sub left, ap {B = ℕ} (λ b. cond b (weight ids (parts_of (subscribing_of sub))) 0) is)

module _ (s : State) (session : ℕ) (id : Option (List ℕ)) where
  -- what its session takes of other ids, and what the others take
  abbrev pub without_it : Ids → ℕ → ℕ
  without_it ids n = cond (n == session) (taken (others id ids) n s) (taken ids n s)

  -- a state in which its session has that at most, and the others have no more than before
  split : (t : State) → ((ids : Ids) → taken ids session t ≤ taken (others id ids) session s) → Under (λ ids n. taken ids n s) t → Under without_it t
  split t own less ids n = by (n == session) refl
    where
      by : (b : Bool) → (n == session) ≡ b → taken ids n t ≤ cond b (taken (others id ids) n s) (taken ids n s)
      by true is = subst (λ (m : ℕ). taken ids m t ≤ taken (others id ids) m s) (sym (eqb-true n session is)) (own ids)
      by false is = less ids n

  pub under_ended_so : Under without_it (ended s session)
  under_ended_so =
      split (ended s session) (λ ids. omega (arith, less_removed (of_session ids session) (is_at (nat_cmp session)) s.sessions, none_of session ids s.subscriptions)) (under_ended (λ ids n. taken ids n s) s session (λ ids n. omega arith))

module _ (s : State) (session : ℕ) (once : (id : List ℕ) → count_by (is_named session id) s.subscriptions ≤ 1) where
  none_named : (id : List ℕ) → NonePass (is_named session id) s.subscriptions → Under (without_it s session (Some id)) s
  none_named id none =
      split s session (Some id) s (λ ids. omega (arith, all_others session id ids s.subscriptions none)) (λ ids n. omega arith)

  one_less : (id : List ℕ) (sub : Subscription) (rest : List Subscription) → picked (is_named session id) s.subscriptions ≡ Some (sub, rest) → Under (without_it s session (Some id)) (record s { subscriptions = rest })
  one_less id sub rest is =
      split s session (Some id) (record s { subscriptions = rest })
      (λ ids. omega (arith, all_others session id ids rest (none_left (is_named session id) s.subscriptions sub rest is (once id)), sum_picked (is_named session id) (of_subscription (others (Some id) ids) session) s.subscriptions sub rest is))
      (λ ids n. omega (arith, sum_picked (is_named session id) (of_subscription ids n) s.subscriptions sub rest is))

  under_unsubscribed : (id : List ℕ) → Gives (Under (without_it s session (Some id))) (unsubscribed s session id)
  under_unsubscribed id = by (picked (is_named session id) s.subscriptions) refl
    where
      by : (o : Option (Subscription × List Subscription)) → picked (is_named session id) s.subscriptions ≡ o → Gives (Under (without_it s session (Some id))) (ended_one s o)
      by None is = tt
      by (Some q) is = one_less id q.0 q.1 is

  under_without_named : (id : Option (List ℕ)) → Under (without_it s session id) (without_named s session id)
  under_without_named None = split s session None s (λ ids. omega arith) (λ ids n. omega arith)
  under_without_named (Some id) = by (picked (is_named session id) s.subscriptions) refl
    where
      by : (o : Option (Subscription × List Subscription)) → picked (is_named session id) s.subscriptions ≡ o → Under (without_it s session (Some id)) (or_same s (ended_one s o))
      by None is = none_named id (picked_nothing (is_named session id) s.subscriptions is)
      by (Some q) is = one_less id q.0 q.1 is

  pub under_unsubscribed_by : (id durable : Option (List ℕ)) → Gives (Under (without_it s session id)) (unsubscribed_by s session id durable)
  under_unsubscribed_by id (Some name) =
      under_given_up (without_it s session id) (without_named s session id) (client_of s session) name (under_without_named id)
  under_unsubscribed_by (Some id) None = under_unsubscribed id
  under_unsubscribed_by None None = tt
