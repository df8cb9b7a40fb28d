use Rattle.std.proofs.Common.{◌≡◌, ◌≤◌, ◌+◌, ◌||◌, ◌++◌, List, [], ◌∷◌, ℕ, Bool, true, false, Option, Some, None, cond, is_some, map, not, refl, sym, ap, ◌∙◌, arith, if◌then◌else◌}
use Rattle.std.specs.List.{AllByRecursion, sum_by}
use Rattle.std.specs.Ordering.{is_eq}
use Rattle.std.proofs.lemmas.List.Sums.{sum_by-cons, sum_by_push}
use Rattle.frame_core.proofs.Lists.{all_push, all_weaker}
use Rattle.command_core.specs.Destinations.{is_queue}
use Rattle.line_core.specs.declared.message.Message.{Message}
use Rattle.line_core.specs.Flights.{settled}
use Rattle.line_core.proofs.Flights.{sum_by-settled}
use Rattle.line_core.proofs.Inserted.{sum_by-inserted}
use Rattle.broker_state.specs.declared.subscription.Subscription.{Subscription}
use Rattle.broker_state.specs.Dead.{dead_queue, is_dropped, with_refused}
use Rattle.broker_state.specs.HandOut.{can_take, delivered, handed, is_auto}
use Rattle.broker_state.specs.Kept.{takes_from}
use Rattle.broker_state.specs.Lists.{picked, with_first}
use Rattle.broker_state.specs.Names.{Name, name_cmp, text_cmp}
use Rattle.broker_state.specs.Operations.{awaits, copied, forgotten, message_of, settled_by, fanned_out, uses, without}
use Rattle.broker_state.specs.States.{State, weight_of_subscription}
use Rattle.broker_state.specs.Waiting.{Lines, Shared, is_own, left_line, line_at, line_for, line_from, with_message}
use Rattle.broker_state.proofs.Counts.{sum_first_less, sum_mapped}
use Rattle.broker_state.proofs.Deliveries.{sum_picked}
use Rattle.broker_state.proofs.Keys.{names_total, same_names, same_texts, texts_total}
use Rattle.broker_state.proofs.Limited.{IsLimited, up_to_64}
use Rattle.broker_state.proofs.LineWeights.{flying, name_back, name_copied, name_left, part, queue_back, queue_left, weight_put, weight_removed}
use Rattle.broker_state.proofs.Meters.{IsMetered, settles_few}
use Rattle.broker_state.proofs.Ordered.{IsOrdered}
use Rattle.broker_state.proofs.Picked.{all_picked, all_with_first}
use Rattle.broker_state.proofs.Refusals.{kept_from, kept_in, let_go}
use Rattle.broker_state.proofs.Sendings.{fanned_out_by}
use Rattle.broker_state.proofs.Served.{flight_more}
use Rattle.broker_state.proofs.Walk.{Keeps, KeepsFrom}
use Rattle.broker_state.proofs.Weights.{copied_keeps}

-- A weight stands for the messages of one number: in a line and what is unacknowledged from it, it weighs one at most.
module _ (weight : Message → ℕ) where
  -- what weighs in the line of a queue and unacknowledged from it, and under a durable name likewise
  abbrev pub in_queue : List ℕ → State → ℕ
  in_queue to s =
      sum_by weight (line_at text_cmp to s.shared.queues) + sum_by (part weight (takes_from to)) s.subscriptions

  abbrev pub under : Name → State → ℕ
  under name s =
      sum_by weight (line_at name_cmp name s.shared.names) + sum_by (part weight (uses name)) s.subscriptions

  -- where a line is a subscription's own, it weighs no more than that, and so does what is unacknowledged from it
  abbrev pub IsSingleOwn : ℕ → Subscription → Type 0
  IsSingleOwn left sub = is_own sub ≡ true → weight_of_subscription weight sub + left ≤ 1

  -- with what is left to be sent it weighs one at most
  pub record IsSingle (left : ℕ) (s : State) : Type 0 where
    pub queues : (to : List ℕ) → in_queue to s + left ≤ 1
    pub names : (name : Name) → under name s + left ≤ 1
    pub own : AllByRecursion (IsSingleOwn left) s.subscriptions

  nothing : (b : Bool) (n : ℕ) → n ≡ 0 → (if b then n else 0) ≡ 0
  nothing true n none = none
  nothing false n none = refl

  fewer : (b : Bool) (x y : ℕ) → x ≤ y → (if b then x else 0) ≤ (if b then y else 0)
  fewer true x y less = less
  fewer false x y less = omega arith

  more_by : (b : Bool) (x y z : ℕ) → x ≤ y + z → (if b then x else 0) ≤ (if b then y else 0) + (if b then z else 0)
  more_by true x y z less = less
  more_by false x y z less = omega arith

  settled_flying : (delivery : ℕ) (x : Subscription) → flying weight (settled_by delivery x).unacknowledged ≤ flying weight x.unacknowledged
  settled_flying delivery x =
      omega (arith, sum_by-settled (λ (d : ℕ × Message). weight d.1) x.mode delivery x.unacknowledged)

  -- a subscription without deliveries begins
  begun_single : (left : ℕ) (s t : State) (sub : Subscription) → sub.line ≡ [] → sub.unacknowledged ≡ [] → t.shared ≡ s.shared → t.subscriptions ≡ s.subscriptions ++ sub ∷ [] → IsSingle left s → IsSingle left t
  begun_single left s t sub empty none shared subs now = record {
    queues = λ to. omega (arith, now.queues to, part_none (takes_from to), ap (sum_by (part weight (takes_from to))) subs, sum_by_push (part weight (takes_from to)) s.subscriptions sub, ap (λ (x : Shared). sum_by weight (line_at text_cmp to x.queues)) shared);
    names = λ name. omega (arith, now.names name, part_none (uses name), ap (sum_by (part weight (uses name))) subs, sum_by_push (part weight (uses name)) s.subscriptions sub, ap (λ (x : Shared). sum_by weight (line_at name_cmp name x.names)) shared);
    own = rw subs (all_push (IsSingleOwn left) s.subscriptions sub now.own (λ own. omega (arith, now.queues [], ap (λ l. sum_by weight l) empty, ap (flying weight) none)));
  }
    where
      part_none : (such : Subscription → Bool) → part weight such sub ≡ 0
      part_none such = nothing (such sub) (flying weight sub.unacknowledged) (ap (flying weight) none)

  without_single : (left : ℕ) (s : State) (p : Subscription → Bool) (sub : Subscription) (others : List Subscription) → picked p s.subscriptions ≡ Some (sub, others) → IsSingle left s → IsSingle left (without s sub others)
  without_single left s p sub others is now = record {
    queues = λ to. omega (arith, now.queues to, queue_back weight s.shared sub to, sum_picked p (part weight (takes_from to)) s.subscriptions sub others is);
    names = λ name. omega (arith, now.names name, name_back weight s.shared sub name, sum_picked p (part weight (uses name)) s.subscriptions sub others is);
    own = (all_picked p s.subscriptions sub others is (IsSingleOwn left) now.own).1;
  }

  forgotten_single : (left : ℕ) (s : State) (name : Name) (number : ℕ) → IsOrdered number s → IsSingle left s → IsSingle left (forgotten s name)
  forgotten_single left s name number known now = record {
    queues = now.queues;
    names = λ q. omega (arith, now.names q, weight_removed name_cmp names_total same_names weight q name s.shared.names (is_eq (name_cmp q name)) refl known.order.names);
    own = now.own;
  }

  acknowledged_single : (left : ℕ) (s : State) (p : Subscription → Bool) (delivery : ℕ) → IsSingle left s → IsSingle left (record s { subscriptions = with_first p (settled_by delivery) s.subscriptions })
  acknowledged_single left s p delivery now = record {
    queues = λ to. omega (arith, now.queues to, sum_first_less (part weight (takes_from to)) (settled_by delivery) p (λ x. fewer (takes_from to x) _ _ (settled_flying delivery x)) s.subscriptions);
    names = λ name. omega (arith, now.names name, sum_first_less (part weight (uses name)) (settled_by delivery) p (λ x. fewer (uses name x) _ _ (settled_flying delivery x)) s.subscriptions);
    own = all_with_first p (IsSingleOwn left) (settled_by delivery) (λ x passes single own. omega (arith, single own, settled_flying delivery x)) s.subscriptions now.own;
  }

  -- a line of its own is the one that a subscription is served from
  own_line_by : (shared : Shared) (sub : Subscription) (kind : Bool) → not (false || kind) ≡ true → (if kind then line_at text_cmp sub.destination shared.queues else sub.line) ≡ sub.line
  own_line_by shared sub true own = absurd cc
  own_line_by shared sub false own = refl

  own_line_from : (shared : Shared) (sub : Subscription) (o : Option Name) → not (is_some o || is_queue sub.destination) ≡ true → line_from shared sub o ≡ sub.line
  own_line_from shared sub (Some name) own = absurd cc
  own_line_from shared sub None own = own_line_by shared sub (is_queue sub.destination) own

  module _ (left : ℕ) (s : State) (sub : Subscription) (others : List Subscription) (m : Message) (rest : List Message) (is : picked (can_take s) s.subscriptions ≡ Some (sub, others)) (line : line_for s.shared sub ≡ m ∷ rest) where
    abbrev after : Subscription
    after = delivered (left_line sub rest) s.next_delivery m

    one_flying : flying weight after.unacknowledged ≤ flying weight sub.unacknowledged + weight m
    one_flying = omega (arith, flight_more weight (is_auto sub.mode) sub.unacknowledged s.next_delivery m)

    own_served : IsSingleOwn left sub → IsSingleOwn left after
    own_served single own =
        let was : sum_by weight sub.line ≡ sum_by weight (m ∷ rest) = ap (λ l. sum_by weight l) (sym (own_line_from s.shared sub sub.durable own) ∙ line) in
        let now : sum_by weight after.line ≡ sum_by weight rest = ap (λ b. sum_by weight (if b then rest else sub.line)) own in
        omega (arith, single own, was, now, one_flying, sum_by-cons weight m rest)

    handed_single : (number : ℕ) → IsOrdered number s → IsSingle left s → IsSingle left (handed s sub others m rest).state
    handed_single number known now =
        let own = all_picked (can_take s) s.subscriptions sub others is (IsSingleOwn left) now.own in
        record {
          queues = λ to. let f = part weight (takes_from to) in
              omega (arith, now.queues to, queue_left weight s.shared sub known.order m rest to line, sum_picked (can_take s) f s.subscriptions sub others is, sum_by_push f others after, more_by (takes_from to sub) _ _ (weight m) one_flying);
          names = λ name. let f = part weight (uses name) in
              omega (arith, now.names name, name_left weight s.shared sub known.order m rest name line, sum_picked (can_take s) f s.subscriptions sub others is, sum_by_push f others after, more_by (uses name sub) _ _ (weight m) one_flying);
          own = all_push (IsSingleOwn left) others after own.1 (own_served own.0);
        }

  pub single_changes : (number left : ℕ) → Keeps (IsOrdered number) (IsSingle left)
  single_changes number left = record {
    opened = λ s client_id earlier known now. record { queues = now.queues; names = now.names; own = now.own };
    begun = λ s session id to mode can known now. begun_single left s _ _ refl refl refl refl now;
    used = λ s session id to mode name can own topic free known now. begun_single left s _ _ refl refl refl refl now;
    bound = λ s session id to mode name can own unknown few known now.
        begun_single left s _ _ refl refl refl refl now;
    without = λ s passes sub others is known now. without_single left s passes sub others is now;
    closed = λ s session none known now. record { queues = now.queues; names = now.names; own = now.own };
    forgotten = λ s name free known now. forgotten_single left s name number known now;
    acknowledged = λ s session delivery known now. acknowledged_single left s (awaits session delivery) delivery now;
    handed = λ s sub others m rest is line known now. handed_single left s sub others m rest is line number known now;
  }

  all_over : (P Q : Subscription → Type 0) (g : Subscription → Subscription) → ((x : Subscription) → P x → Q (g x)) → (xs : List Subscription) → AllByRecursion P xs → AllByRecursion Q (map g xs)
  all_over P Q g keeps [] all = tt
  all_over P Q g keeps (x ∷ xs) all = (keeps x all.0, all_over P Q g keeps xs all.1)

  at_most : (b : Bool) (n : ℕ) → cond b n 0 ≤ n
  at_most true n = omega arith
  at_most false n = omega arith

  module _ (before left : ℕ) (s : State) (m : Message) (enough : weight m + left ≤ before) (now : IsSingle before s) where
    queue_fanned_out : IsSingle left (fanned_out_by s m true)
    queue_fanned_out = record {
      queues = λ to. omega (arith, now.queues to, enough, weight_put text_cmp texts_total same_texts weight to m.sending.destination m s.shared.queues (is_eq (text_cmp to m.sending.destination)) refl, at_most (is_eq (text_cmp to m.sending.destination)) (weight m));
      names = λ name. omega (arith, now.names name, enough);
      own = all_weaker (IsSingleOwn before) (IsSingleOwn left) (λ x single own. omega (arith, single own, enough)) s.subscriptions now.own;
    }

    topic_fanned_out : (number : ℕ) → IsOrdered number s → IsSingle left (fanned_out_by s m false)
    topic_fanned_out number known = record {
      queues = λ to. omega (arith, now.queues to, enough, sum_mapped (part weight (takes_from to)) (copied m) (λ x. copied_keeps (λ y. part weight (takes_from to) y ≡ part weight (takes_from to) x) m x refl refl) s.subscriptions);
      names = λ name. omega (arith, now.names name, enough, name_copied weight m name s.durables known.durables s.shared.names, sum_mapped (part weight (uses name)) (copied m) (λ x. copied_keeps (λ y. part weight (uses name) y ≡ part weight (uses name) x) m x refl refl) s.subscriptions);
      own = all_over (IsSingleOwn before) (IsSingleOwn left) (copied m) (λ x single. copied_keeps (IsSingleOwn left) m x (λ own. omega (arith, single own, enough)) (λ own. omega (arith, single own, enough, sum_by-inserted m weight x.line))) s.subscriptions now.own;
    }

    fanned_out_single : (number : ℕ) → IsOrdered number s → IsSingle left (fanned_out s m)
    fanned_out_single number known = by (is_queue m.sending.destination)
      where
        by : (b : Bool) → IsSingle left (fanned_out_by s m b)
        by true = queue_fanned_out
        by false = topic_fanned_out number known

  -- and with less that is left
  pub less_left : (before left : ℕ) (s : State) → left ≤ before → IsSingle before s → IsSingle left s
  less_left before left s less now = record {
    queues = λ to. omega (arith, now.queues to, less);
    names = λ name. omega (arith, now.names name, less);
    own = all_weaker (IsSingleOwn before) (IsSingleOwn left) (λ x single own. omega (arith, single own, less)) s.subscriptions now.own;
  }

  -- the line of refused messages, and another, with more messages
  refused_line : (to : List ℕ) (messages : List Message) (lines : Lines (List ℕ)) → sum_by weight (line_at text_cmp to (with_refused messages lines)) ≤ sum_by weight (line_at text_cmp to lines) + sum_by weight messages
  refused_line to [] lines = omega arith
  refused_line to (m ∷ messages) lines =
      let more = with_message text_cmp dead_queue m lines in
      omega (arith, refused_line to messages more, weight_put text_cmp texts_total same_texts weight to dead_queue m lines (is_eq (text_cmp to dead_queue)) refl, at_most (is_eq (text_cmp to dead_queue)) (weight m), sum_by-cons weight m messages)

  -- what a refusal keeps stands in the line of refused messages alone
  refused_single : (before left : ℕ) (s : State) (session place delivery : ℕ) (sub : Subscription) → sum_by weight (kept_from s session place delivery sub) + left ≤ before → IsSingle before s → IsSingle left (kept_in s session place delivery sub)
  refused_single before left s session place delivery sub enough now =
      let after = acknowledged_single before s (awaits session delivery) delivery now in
      record {
        queues = λ to. omega (arith, after.queues to, enough, refused_line to (kept_from s session place delivery sub) s.shared.queues);
        names = λ name. omega (arith, after.names name, enough);
        own = all_weaker (IsSingleOwn before) (IsSingleOwn left) (λ x single own. omega (arith, single own, enough)) (let_go s session place delivery).subscriptions after.own;
      }

  -- So it stays one at most.
  pub single_from : (number : ℕ) (left : ℕ → ℕ) → IsMetered weight number left → KeepsFrom (IsLimited number) (λ place s. place ≤ 64 → IsSingle (left place) s)
  single_from number left metered = record {
    changes = λ place. up_to_64 number place (IsSingle (left place)) (single_changes number (left place));
    next = λ place s known now few.
        less_left (left place) (left (place + 1)) s (metered.falls place) (now (omega (arith, few)));
    fanned_out = λ place s sending fits known now few.
        fanned_out_single (left place) (left (place + 1)) s (message_of s.count place sending) (rw known.0.count (metered.new place sending (omega (arith, few)))) (now (omega (arith, few))) number known.0;
    refused = λ place s session delivery sub others is fits known now few.
        refused_single (left place) (left (place + 1)) s session place delivery sub (rw known.0.count (metered.refused place (is_dropped (is_own sub)) (settled sub.mode delivery sub.unacknowledged) (settles_few s (awaits session delivery) delivery sub others is known.1))) (now (omega (arith, few)));
  }
