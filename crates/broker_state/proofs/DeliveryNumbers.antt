use Rattle.std.proofs.Common.{◌≡◌, ◌≤◌, ◌+◌, ◌^◌, ◌==◌, ◌&&◌, ◌++◌, List, [], ◌∷◌, ℕ, Bool, true, false, cond, Some, count_by, filter, map, not, refl, sym, subst, ap, arith, if◌then◌else◌}
use Rattle.std.specs.List.{AllByRecursion, sum_by}
use Rattle.std.specs.Str.{bytes_eq}
use Rattle.std.proofs.lemmas.Bool.{eqb-true, ne_eqb}
use Rattle.std.proofs.lemmas.List.Sums.{sum_by-cons, sum_by_push}
use Rattle.frame_core.proofs.Lists.{all_push}
use Rattle.command_core.specs.Destinations.{is_queue}
use Rattle.line_core.specs.declared.message.Message.{Message}
use Rattle.line_core.specs.Flights.{IsOver, settles}
use Rattle.line_core.specs.Lines.{inserted}
use Rattle.broker_state.specs.declared.subscription.Subscription.{Subscription}
use Rattle.broker_state.specs.HandOut.{can_take, delivered, handed, is_auto}
use Rattle.broker_state.specs.Lists.{picked, with_first}
use Rattle.broker_state.specs.Names.{text_cmp}
use Rattle.broker_state.specs.Operations.{awaits, copied, copied_to_names, message_of, settled_by, fanned_out}
use Rattle.broker_state.specs.States.{IsNext, State}
use Rattle.broker_state.specs.Waiting.{is_own, left_line, with_message}
use Rattle.broker_state.proofs.Counts.{sum_first_less}
use Rattle.broker_state.proofs.Deliveries.{sum_picked}
use Rattle.broker_state.proofs.Picked.{all_picked, all_with_first, picked_passes}
use Rattle.broker_state.proofs.Served.{number_of_ready, over_delivered, over_next}
use Rattle.broker_state.proofs.Walk.{Anything, Keeps, KeepsFrom}
use Rattle.broker_state.proofs.Weights.{all_mapped, over_copied, over_settled_by}

-- how often a delivery of that number is unacknowledged in a subscription, and in all
abbrev pub times : ℕ → Subscription → ℕ
times delivery sub = count_by (λ (d : ℕ × Message). d.0 == delivery) sub.unacknowledged

abbrev pub all_times : ℕ → List Subscription → ℕ
all_times delivery subs = sum_by (times delivery) subs

-- deliveries are under the next one, and none is unacknowledged twice
pub record HasDeliveries (s : State) : Type 0 where
  pub under : IsNext s
  pub most : s.next_delivery ≤ 2 ^ 63
  pub once : (delivery : ℕ) → all_times delivery s.subscriptions ≤ 1

module _ (delivery : ℕ) where
  abbrev it : ℕ × Message → ℕ
  it d = cond (d.0 == delivery) 1 0

  -- a number that is over all is that of none
  none_over : (flight : List (ℕ × Message)) → IsOver delivery flight → count_by (λ (d : ℕ × Message). d.0 == delivery) flight ≡ 0
  none_over [] over = refl
  none_over (d ∷ flight) over =
      let other = ap {B = ℕ} (λ b. cond b 1 0) (ne_eqb d.0 delivery (λ same. omega (arith, same, over.0))) in
      omega (arith, none_over flight over.1, other, sum_by-cons it d flight)

  none_of_all : (subs : List Subscription) → AllByRecursion (λ sub. IsOver delivery sub.unacknowledged) subs → all_times delivery subs ≡ 0
  none_of_all [] all = refl
  none_of_all (sub ∷ subs) all =
      omega (arith, none_over sub.unacknowledged all.0, none_of_all subs all.1, sum_by-cons (times delivery) sub subs)

  -- fewer deliveries have no more of a number
  fewer_times : (test : ℕ × Message → Bool) (flight : List (ℕ × Message)) → sum_by it (filter test flight) ≤ sum_by it flight
  fewer_times test [] = omega arith
  fewer_times test (d ∷ flight) =
      elim (test d) as (λ b. sum_by it (cond b (d ∷ filter test flight) (filter test flight)) ≤ sum_by it (d ∷ flight)) [
        | true ↦ omega (arith, fewer_times test flight, sum_by-cons it d flight, sum_by-cons it d (filter test flight))
        | false ↦ omega (arith, fewer_times test flight, sum_by-cons it d flight)
      ]

  acknowledged_times : (p : Subscription → Bool) (settled : ℕ) (subs : List Subscription) → all_times delivery (with_first p (settled_by settled) subs) ≤ all_times delivery subs
  acknowledged_times p settled subs =
      sum_first_less (times delivery) (settled_by settled) p (λ x. fewer_times (λ (item : ℕ × Message). not (settles x.mode settled item.0)) x.unacknowledged) subs

  -- one more delivery has its own number once
  delivered_times : (auto : Bool) (flight : List (ℕ × Message)) (d : ℕ) (m : Message) → count_by (λ (x : ℕ × Message). x.0 == delivery) (if auto then flight else flight ++ (d, m) ∷ []) ≤ count_by (λ (x : ℕ × Message). x.0 == delivery) flight + cond (d == delivery) 1 0
  delivered_times true flight d m = omega arith
  delivered_times false flight d m = omega (arith, sum_by_push it flight (d, m))

  copied_times : (m : Message) (subs : List Subscription) → all_times delivery (map (copied m) subs) ≡ all_times delivery subs
  copied_times m [] = refl
  copied_times m (sub ∷ subs) =
      let more = record sub { line = inserted m sub.line } in
      elim (is_own sub && bytes_eq sub.destination m.sending.destination) as (λ b. all_times delivery (cond b more sub ∷ map (copied m) subs) ≡ all_times delivery (sub ∷ subs)) [
        | true ↦ omega (arith, copied_times m subs, sum_by-cons (times delivery) more (map (copied m) subs), sum_by-cons (times delivery) sub subs)
        | false ↦ omega (arith, copied_times m subs, sum_by-cons (times delivery) sub (map (copied m) subs), sum_by-cons (times delivery) sub subs)
      ]

-- a subscription without deliveries begins
begun_deliveries : (s t : State) (sub : Subscription) → sub.unacknowledged ≡ [] → t.next_delivery ≡ s.next_delivery → t.subscriptions ≡ s.subscriptions ++ sub ∷ [] → HasDeliveries s → HasDeliveries t
begun_deliveries s t sub none next subs now = record {
  under =
      subst (λ n. AllByRecursion (λ x. IsOver n x.unacknowledged) t.subscriptions) (sym next) (subst (AllByRecursion (λ x. IsOver s.next_delivery x.unacknowledged)) (sym subs) (all_push (λ x. IsOver s.next_delivery x.unacknowledged) s.subscriptions sub now.under (subst (IsOver s.next_delivery) (sym none) tt)));
  most = omega (arith, next, now.most);
  once = λ delivery. omega (arith, now.once delivery, ap (all_times delivery) subs, sum_by_push (times delivery) s.subscriptions sub, ap (count_by (λ (d : ℕ × Message). d.0 == delivery)) none);
}

-- each change keeps it
pub deliveries_kept : Keeps Anything HasDeliveries
deliveries_kept = record {
  opened = λ s client_id earlier _ now. record { under = now.under; most = now.most; once = now.once };
  begun = λ s session id to mode can _ now. begun_deliveries s _ _ refl refl refl now;
  used = λ s session id to mode name can own topic free _ now. begun_deliveries s _ _ refl refl refl now;
  bound = λ s session id to mode name can own unknown few _ now. begun_deliveries s _ _ refl refl refl now;
  without = λ s passes sub others is _ now. record {
    under = (all_picked passes s.subscriptions sub others is (λ x. IsOver s.next_delivery x.unacknowledged) now.under).1;
    most = now.most;
    once = λ delivery. omega (arith, now.once delivery, sum_picked passes (times delivery) s.subscriptions sub others is);
  };
  closed = λ s session none _ now. record { under = now.under; most = now.most; once = now.once };
  forgotten = λ s name free _ now. record { under = now.under; most = now.most; once = now.once };
  acknowledged = λ s session delivery _ now. record {
    under =
        all_with_first (awaits session delivery) (λ x. IsOver s.next_delivery x.unacknowledged) (settled_by delivery) (λ x passes over. over_settled_by s.next_delivery delivery x over) s.subscriptions now.under;
    most = now.most;
    once = λ number. omega (arith, now.once number, acknowledged_times number (awaits session delivery) delivery s.subscriptions);
  };
  handed = λ s sub others m rest is line _ now. handed_deliveries s sub others m rest is now;
}
  where
    later : (n : ℕ) (subs : List Subscription) → AllByRecursion (λ x. IsOver n x.unacknowledged) subs → AllByRecursion (λ x. IsOver (n + 1) x.unacknowledged) subs
    later n [] all = tt
    later n (x ∷ subs) all = (over_next n x.unacknowledged all.0, later n subs all.1)

    handed_deliveries : (s : State) (sub : Subscription) (others : List Subscription) (m : Message) (rest : List Message) → picked (can_take s) s.subscriptions ≡ Some (sub, others) → HasDeliveries s → HasDeliveries (handed s sub others m rest).state
    handed_deliveries s sub others m rest is now =
        let parts = all_picked (can_take s) s.subscriptions sub others is (λ x. IsOver s.next_delivery x.unacknowledged) now.under in
        let n = s.next_delivery in
        record {
          under = all_push (λ x. IsOver (n + 1) x.unacknowledged) others (delivered (left_line sub rest) n m) (later n others parts.1) (over_delivered (is_auto sub.mode) n m sub.unacknowledged parts.0);
          most = omega (arith, number_of_ready s sub (picked_passes (can_take s) s.subscriptions sub others is));
          once = λ delivery. once delivery (sum_picked (can_take s) (times delivery) s.subscriptions sub others is) (sum_by_push (times delivery) others (delivered (left_line sub rest) n m)) (delivered_times delivery (is_auto sub.mode) sub.unacknowledged n m) (n == delivery) refl;
        }
      where
        once : (delivery : ℕ) → all_times delivery others + times delivery sub ≡ all_times delivery s.subscriptions → all_times delivery (others ++ delivered (left_line sub rest) s.next_delivery m ∷ []) ≡ all_times delivery others + times delivery (delivered (left_line sub rest) s.next_delivery m) → times delivery (delivered (left_line sub rest) s.next_delivery m) ≤ times delivery sub + cond (s.next_delivery == delivery) 1 0 → (b : Bool) → (s.next_delivery == delivery) ≡ b → all_times delivery (others ++ delivered (left_line sub rest) s.next_delivery m ∷ []) ≤ 1
        once delivery all more one_more true is =
            let same : delivery ≡ s.next_delivery = sym (eqb-true s.next_delivery delivery is) in
            omega (arith, all, more, one_more, ap {B = ℕ} (λ b. cond b 1 0) is, none_of_all s.next_delivery s.subscriptions now.under, ap (λ k. all_times k s.subscriptions) same)
        once delivery all more one_more false is =
            omega (arith, all, more, one_more, ap {B = ℕ} (λ b. cond b 1 0) is, now.once delivery)

fanned_out_deliveries : (s : State) (m : Message) → HasDeliveries s → HasDeliveries (fanned_out s m)
fanned_out_deliveries s m now = by (is_queue m.sending.destination)
  where
    by : (b : Bool) → HasDeliveries (if b then record s { shared = record s.shared { queues = with_message text_cmp m.sending.destination m s.shared.queues } } else record s { shared = record s.shared { names = copied_to_names m s.durables s.shared.names }; subscriptions = map (copied m) s.subscriptions })
    by true = record { under = now.under; most = now.most; once = now.once }
    by false = record {
      under = all_mapped (λ (x : Subscription). IsOver s.next_delivery x.unacknowledged) (copied m) (over_copied s.next_delivery m) s.subscriptions now.under;
      most = now.most;
      once = λ delivery. omega (arith, now.once delivery, copied_times delivery m s.subscriptions);
    }

pub deliveries_kept_from : KeepsFrom Anything (λ place. HasDeliveries)
deliveries_kept_from = record {
  changes = λ place. deliveries_kept;
  next = λ place s _ now. now;
  fanned_out = λ place s sending fits _ now. fanned_out_deliveries s (message_of s.count place sending) now;
  refused = λ place s session delivery sub others is fits _ now.
      let after = deliveries_kept.acknowledged s session delivery tt now in
      record { under = after.under; most = after.most; once = after.once };
}
