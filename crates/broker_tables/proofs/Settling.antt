use Rattle.std.proofs.Common.{◌≡◌, ◌<◌, ◌+◌, ◌++◌, ◌∷◌, [], List, ℕ, Option, Some, ap, arith, drop, length, refl, remove, slice_get, subst, sym, true, ◌∙◌, if◌then◌else◌}
use Rattle.std.specs.List.{AllByRecursion, sum_by}
use Rattle.std.proofs.lemmas.List.{append-nil}
use Rattle.std.proofs.lemmas.Option.{slice_get_within}
use Rattle.command_core.specs.Outs.{OutValue}
use Rattle.line_core.specs.declared.message.Message.{Message}
use Rattle.line_core.specs.Flights.{IsOver}
use Rattle.broker_state.specs.declared.subscription.Subscription.{Subscription}
use Rattle.broker_state.specs.HandOut.{can_take, delivered, Settling, handed_to, is_auto, settled, waiting}
use Rattle.broker_state.specs.Names.{Name}
use Rattle.broker_state.specs.Parts.{NonePass}
use Rattle.broker_state.specs.Settles.{SettlesSo}
use Rattle.broker_state.specs.States.{State, bytes, one, weight_of_subscription}
use Rattle.broker_state.specs.Waiting.{line_for, weight_of_shared}
use Rattle.broker_state.proofs.Served.{counted_after, first_and_rest, handed_made, held_after, next_after, no_more_after, number_of_ready, waits_less}
use Rattle.broker_state.proofs.Serving.{serves, settled_none}
use Rattle.waiting_order.specs.declared.waiters.Key.{Key}
use Rattle.waiting_order.specs.Waiting.{IsOrdered, Waiting, subs_of}
use Rattle.waiting_order.proofs.Keeping.{subs_pushed}
use Rattle.broker_tables.specs.declared.cursors.Cursor.{Cursor}
use Rattle.broker_tables.specs.declared.stock.Stock.{Stock}
use Rattle.broker_tables.specs.Cursors.{AreAwaited}
use Rattle.broker_tables.specs.Handing.{IsServed}
use Rattle.broker_tables.specs.Stocks.{IsStocked, shown, stocked}
use Rattle.broker_tables.proofs.Awaiting.{awaited_served, same_scopes}
use Rattle.broker_tables.proofs.Waiters.{W, sub_at, subs_removed}

-- What a delivery leaves.
module _ (number : ℕ) (old new : Stock) (key : Key) (out : OutValue) (served : IsServed number old key new out) (kept : IsStocked old) where
  abbrev subs : List Subscription
  subs = subs_of old.order.all

  abbrev before : Subscription
  before = served.waiter.sub

  there : slice_get subs served.at ≡ Some before
  there = sub_at old.order.all served.at (key, served.waiter) served.there

  within : served.at < length subs
  within = slice_get_within subs served.at before there

  abbrev message : Message
  message = served.handed.message

  abbrev rest : List Message
  rest = drop 1 (line_for old.shared before)

  line : line_for old.shared before ≡ message ∷ rest
  line = first_and_rest (line_for old.shared before) message served.handed.taken

  subs_after : subs_of new.order.all ≡ remove subs served.at ++ delivered served.handed.left old.next_delivery message ∷ []
  subs_after =
      ap (λ (o : Waiting). subs_of o.all) served.order ∙ subs_pushed (remove old.order.all served.at) (key, record served.waiter { ticket = old.order.next; sub = served.sub })
      ∙ ap (λ (l : List Subscription). l ++ served.sub ∷ []) (subs_removed old.order.all served.at)
      ∙ ap (λ (x : Subscription). remove subs served.at ++ x ∷ []) served.handed.handed

  flight : served.handed.left.unacknowledged ≡ before.unacknowledged
  flight = ap (λ (x : Subscription). x.unacknowledged) served.handed.line

  weigh : (weight : Message → ℕ) → weight_of_shared weight new.shared + sum_by weight served.handed.left.line + sum_by weight (message ∷ rest) ≡ weight_of_shared weight old.shared + sum_by weight before.line + sum_by weight rest
  weigh weight = ap (λ l. weight_of_shared weight new.shared + sum_by weight served.handed.left.line + sum_by weight l) (sym line) ∙ served.handed.weight weight

  pub fewer_wait : waiting (stocked new) + 1 ≡ waiting (stocked old)
  fewer_wait =
      ap (λ (l : List Subscription). weight_of_shared one new.shared + sum_by (λ (x : Subscription). sum_by one x.line) l + 1) subs_after
      ∙ waits_less subs served.at before within there old.shared new.shared served.handed.left message rest weigh old.next_delivery

  after : (weight : Message → ℕ) → weight_of_shared weight new.shared + sum_by (weight_of_subscription weight) (remove subs served.at ++ delivered served.handed.left old.next_delivery message ∷ []) + (if is_auto served.handed.left.mode then weight message else 0) ≡ weight_of_shared weight old.shared + sum_by (weight_of_subscription weight) subs
  after weight = held_after subs served.at before within there old.shared new.shared served.handed.left message rest weigh weight old.next_delivery flight

  ready : can_take (stocked old) before ≡ true
  ready = served.first.passing before there

  pub still_stocked : IsStocked new
  still_stocked =
      let few = number_of_ready (stocked old) before ready in
      let IsUnder = λ (x : Subscription). IsOver new.next_delivery x.unacknowledged in
      record {
        messages = counted_after (is_auto served.handed.left.mode) _ _ _ _ _ kept.messages served.handed.messages (after one) ∙ sym (ap (λ (l : List Subscription). weight_of_shared one new.shared + sum_by (weight_of_subscription one) l) subs_after);
        bytes = counted_after (is_auto served.handed.left.mode) _ _ _ _ _ kept.bytes served.handed.lighter (after bytes) ∙ sym (ap (λ (l : List Subscription). weight_of_shared bytes new.shared + sum_by (weight_of_subscription bytes) l) subs_after);
        few = omega (arith, kept.few, no_more_after (is_auto served.handed.left.mode) _ _ _ served.handed.messages);
        small = omega (arith, kept.small, no_more_after (is_auto served.handed.left.mode) _ _ _ served.handed.lighter);
        next = subst (AllByRecursion IsUnder) (sym subs_after) (subst (λ (n : ℕ). AllByRecursion (λ (x : Subscription). IsOver n x.unacknowledged) (remove subs served.at ++ delivered served.handed.left old.next_delivery message ∷ [])) (sym served.delivery)
            (next_after old.next_delivery message subs served.at before served.handed.left there flight kept.next));
        deliveries = omega (arith, few, served.delivery);
        tickets = omega (arith, kept.tickets, served.delivery, ap (λ (o : Waiting). o.next) served.order);
      }

  module _ (sessions : List (ℕ × Option (List ℕ))) (durables : List (Name × List ℕ)) where
    pub is_handed : handed_to (shown number sessions durables old) (Some (before, remove subs served.at)) ≡ Some (record { state = shown number sessions durables new; out = out })
    is_handed =
        handed_made (shown number sessions durables old) before served.handed.left (remove subs served.at) (line_for old.shared before) message new.shared (subs_of new.order.all) out served.handed.taken served.handed.rest served.handed.line subs_after served.handed.out
        ∙ ap (λ (n : ℕ). Some (record { state = record (shown number sessions durables new) { next_delivery = n }; out = out })) (sym served.delivery)

    -- the hand-out goes on
    pub settles_on : (first : State) (outs_first outs : List OutValue) → SettlesSo first outs_first (shown number sessions durables old) outs 0 → SettlesSo first outs_first (shown number sessions durables new) (outs ++ out ∷ []) 0
    settles_on first outs_first outs so =
        let on = serves first outs_first (shown number sessions durables old) outs served.at before (shown number sessions durables new) out within there ready is_handed fewer_wait (record { state = so.state; all = so.all; passed = served.first.before }) in
        record { state = on.state; all = on.all; passed = tt }

  pub still_awaited : (cursors : List Cursor) → IsOrdered old.order → AreAwaited cursors old → AreAwaited cursors new
  still_awaited cursors ordered all =
      let v : W = (key, record served.waiter { ticket = old.order.next; sub = served.sub }) in
      let h = served.handed in
      let session = ap (λ (x : Subscription). x.session) h.handed ∙ ap (λ (x : Subscription). x.session) h.line in
      awaited_served cursors old new served.at (key, served.waiter) v message rest served.there ordered all ready line h.rest served.delivery (ap (λ (o : Waiting). o.all) served.order) refl (same_scopes v.1 served.waiter session refl)

-- where none can be served, all is handed out
pub settles_all : (first s : State) (earlier outs : List OutValue) → SettlesSo first earlier s outs 0 → NonePass (can_take s) s.subscriptions → (s ≡ (settled first).state) × (outs ≡ earlier ++ (settled first).outs)
settles_all first s earlier outs so none =
    let is = settled_none s none in (
      sym (so.state ∙ ap (λ (r : Settling). r.state) is),
      sym (so.all ∙ ap (λ (r : Settling). outs ++ r.outs) is ∙ append-nil outs),
    )
