use Rattle.std.proofs.Common.{◌≡◌, ◌≤◌, ◌∙◌, ◌+◌, ◌-◌, ℕ, Some, true, false, Ok, ap, arith, nat_le, refl, rules, slice_get, subst, sym}
use Rattle.std.proofs.lemmas.Option.{same_Some}
use Rattle.std.specs.List.{AllByRecursion, sum_by}
use Rattle.std.proofs.lemmas.Bool.{and_parts}
use Rattle.line_core.specs.declared.message.Message.{Message}
use Rattle.line_core.specs.Flights.{IsOver, has_delivery, settled}
use Rattle.broker_state.specs.Dead.{dead_queue}
use Rattle.broker_state.proofs.Refusals.{kept_from}
use Rattle.broker_state.specs.declared.subscription.Subscription.{Subscription}
use Rattle.broker_state.specs.Operations.{is_of, settled_by}
use Rattle.broker_state.specs.States.{bytes, held_bytes, held_messages, one, weight_of_subscription}
use Rattle.broker_state.specs.Waiting.{Shared, is_own, line_for}
use Rattle.broker_state.proofs.Weights.{all_changed, ones, over_settled_by, sum_by-part}
use Rattle.broker_tables.specs.Refusals.{all_kept_bytes}
use Rattle.broker_tables.specs.Stocks.{shown, stocked}
use Rattle.waiting_order.specs.Waiting.{Waiting, subs_of}
use Rattle.broker_tables.specs.Tables.{TablesValue}
use Rattle.broker_tables.proofs.Waiters.{sub_at, subs_changed}
use Rattle.broker_tables.proofs.Operating.{gone_of, nack_by, nack_counts, nack_fewer, nack_lines, nack_none, nack_small, nack_state, part_of}
use Rattle.broker_tables.specs.Dues.{is_due}
use Rattle.waiting_order.specs.Directories.{is_plain_at}
use Rattle.broker_tables.proofs.Dues.{due_changed, refused_elsewhere, unless}
use Rattle.broker_tables.proofs.tables.Tables.refuse.Goals as goal

pub returns-in_default-clause-nacked : goal.returns-in_default-clause-nacked
returns-in_default-clause-nacked c =
    rw (← c.self.view_is) (nack_none _ c.args.session c.args.member c.args.delivery c.in_default.ensures)

pub get-requires : goal.get-requires
get-requires c =
    let first = c.in-Some.ensures in
    (first.at, first.waiter, first.there)

pub get-requires-2 : goal.get-requires-2
get-requires-2 c =
    let first = c.in-Some.ensures in
    (first.at, first.waiter, first.there)

pub take_refused-requires : goal.take_refused-requires
take_refused-requires c =
    let first = c.in-Some.ensures in
    let ws = c.self.inside.stock.order.all in
    let sub = first.waiter.sub in
    let there = sub_at ws first.at (c.in-Some.key, first.waiter) first.there in
    record { known = (first.at, first.waiter, first.there, (and_parts (is_of c.args.session sub) (has_delivery c.args.delivery sub.unacknowledged) (first.first.passing sub there)).1) }

pub finds_room-requires-clause-few : goal.finds_room-requires-clause-few
finds_room-requires-clause-few c =
    let first = c.in-Some.ensures in
    let ws = c.self.inside.stock.order.all in
    let is_sub = c.get.ensures.sub first.at first.waiter first.there in
    let there = sub_at ws first.at (c.in-Some.key, first.waiter) first.there ∙ ap (λ (x : Subscription). Some x) (sym is_sub) in
    let whole = ap (λ (b : TablesValue). b.broken) c.self.view_is ∙ c.requires.whole in
    let kept = c.self.invariant whole in
    let sub = c.get.result.now in
    omega (arith, ones sub.unacknowledged, sum_by-part (weight_of_subscription one) (subs_of c.self.inside.stock.order.all) first.at sub there, kept.whole.messages, kept.whole.few)

pub finds_room-requires-clause-part : goal.finds_room-requires-clause-part
finds_room-requires-clause-part c =
    let first = c.in-Some.ensures in
    let ws = c.self.inside.stock.order.all in
    let is_sub = c.get.ensures.sub first.at first.waiter first.there in
    let there = sub_at ws first.at (c.in-Some.key, first.waiter) first.there ∙ ap (λ (x : Subscription). Some x) (sym is_sub) in
    let whole = ap (λ (b : TablesValue). b.broken) c.self.view_is ∙ c.requires.whole in
    let kept = c.self.invariant whole in
    let a = c.self.inside in
    let s = shown a.count a.sessions.entries a.durables a.stock in
    omega (arith, part_of s c.args.session c.args.member c.args.delivery first.at c.get.result.now first.first there bytes, kept.whole.bytes)

pub returns-then-not-finds_room-clause-nacked : goal.returns-then-not-finds_room-clause-nacked
returns-then-not-finds_room-clause-nacked c =
    let first = c.in-Some.ensures in
    let ws = c.self.inside.stock.order.all in
    let is_sub = c.get.ensures.sub first.at first.waiter first.there in
    let there = sub_at ws first.at (c.in-Some.key, first.waiter) first.there ∙ ap (λ (x : Subscription). Some x) (sym is_sub) in
    let whole = ap (λ (b : TablesValue). b.broken) c.self.view_is ∙ c.requires.whole in
    let kept = c.self.invariant whole in
    let a = c.self.inside in
    let s = shown a.count a.sessions.entries a.durables a.stock in
    let sub = c.get.result.now in
    let gone = gone_of s c.args.session c.args.member c.args.delivery first.at sub first.first there in
    let full : c.finds_room.result ≡ false = search rules in
    let room = ap (λ n. nat_le (n - sum_by (λ delivery. bytes delivery.1) gone + all_kept_bytes (is_own sub) gone) 16777216) (sym kept.whole.bytes) ∙ sym c.finds_room.ensures ∙ full in
    rw (← c.self.view_is) (nack_by s c.args.session c.args.member c.args.delivery first.at sub first.first there c.stand_in_order.ensures.queues (omega (arith, kept.whole.messages, kept.whole.few)) false room)

pub move_refused-requires-clause-places : goal.move_refused-requires-clause-places
move_refused-requires-clause-places c =
    let first = c.in-Some.ensures in
    let ws = c.self.inside.stock.order.all in
    let is_sub = c.get.ensures.sub first.at first.waiter first.there in
    let there = sub_at ws first.at (c.in-Some.key, first.waiter) first.there ∙ ap (λ (x : Subscription). Some x) (sym is_sub) in
    let whole = ap (λ (b : TablesValue). b.broken) c.self.view_is ∙ c.requires.whole in
    let kept = c.self.invariant whole in
    let a = c.self.inside in
    let s = shown a.count a.sessions.entries a.durables a.stock in
    let sub = c.get.result.now in
    let items = c.in_ok-settled.settled.items in
    let given = c.in_ok-settled.ensures.settled first.at first.waiter first.there ∙ ap (λ (x : Subscription). settled x.mode c.args.delivery x.unacknowledged) (sym is_sub) in
    omega (arith, c.requires.few, ones items, part_of s c.args.session c.args.member c.args.delivery first.at sub first.first there one, ap (sum_by (λ delivery. one delivery.1)) given, kept.whole.messages, kept.whole.few)

pub move_refused-requires-clause-part : goal.move_refused-requires-clause-part
move_refused-requires-clause-part c =
    let first = c.in-Some.ensures in
    let ws = c.self.inside.stock.order.all in
    let is_sub = c.get.ensures.sub first.at first.waiter first.there in
    let there = sub_at ws first.at (c.in-Some.key, first.waiter) first.there ∙ ap (λ (x : Subscription). Some x) (sym is_sub) in
    let whole = ap (λ (b : TablesValue). b.broken) c.self.view_is ∙ c.requires.whole in
    let kept = c.self.invariant whole in
    let a = c.self.inside in
    let s = shown a.count a.sessions.entries a.durables a.stock in
    let sub = c.get.result.now in
    let given = c.in_ok-settled.ensures.settled first.at first.waiter first.there ∙ ap (λ (x : Subscription). settled x.mode c.args.delivery x.unacknowledged) (sym is_sub) in
    let part = part_of s c.args.session c.args.member c.args.delivery first.at sub first.first there in
    record {
      messages = omega (arith, part one, ap (sum_by (λ delivery. one delivery.1)) given, kept.whole.messages);
      bytes = omega (arith, part bytes, ap (sum_by (λ delivery. bytes delivery.1)) given, kept.whole.bytes);
    }

pub move_refused-requires-clause-small : goal.move_refused-requires-clause-small
move_refused-requires-clause-small c =
    let first = c.in-Some.ensures in
    let ws = c.self.inside.stock.order.all in
    let is_sub = c.get.ensures.sub first.at first.waiter first.there in
    let there = sub_at ws first.at (c.in-Some.key, first.waiter) first.there ∙ ap (λ (x : Subscription). Some x) (sym is_sub) in
    let there_again = sub_at ws first.at (c.in-Some.key, first.waiter) first.there ∙ ap (λ (x : Subscription). Some x) (sym (c.get-2.ensures.sub first.at first.waiter first.there)) in
    let whole = ap (λ (b : TablesValue). b.broken) c.self.view_is ∙ c.requires.whole in
    let kept = c.self.invariant whole in
    let a = c.self.inside in
    let s = shown a.count a.sessions.entries a.durables a.stock in
    let sub = c.get.result.now in
    let items = c.in_ok-settled.settled.items in
    let given = c.in_ok-settled.ensures.settled first.at first.waiter first.there ∙ ap (λ (x : Subscription). settled x.mode c.args.delivery x.unacknowledged) (sym is_sub) in
    let own : c.has_own_line-own.result ≡ is_own sub = c.has_own_line-own.ensures ∙ ap is_own (same_Some c.get-2.result.now sub (sym there_again ∙ there)) in
    let fits : c.finds_room.result ≡ true = search rules in
    let gone = sum_by (λ (delivery : ℕ × Message). bytes delivery.1) items in
    let part : gone ≤ a.stock.held.bytes = omega (arith, part_of s c.args.session c.args.member c.args.delivery first.at sub first.first there bytes, ap (sum_by (λ delivery. bytes delivery.1)) given, kept.whole.bytes) in
    let less : a.stock.held.bytes - gone + gone ≡ a.stock.held.bytes = omega (arith, part) in
    nack_small s c.args.session c.args.member c.args.delivery first.at sub first.first there c.has_own_line-own.result items a.stock.held.bytes (a.stock.held.bytes - gone) own given less (sym c.finds_room.ensures ∙ fits)

pub invariant_of-self-2 : goal.invariant_of-self-2
invariant_of-self-2 c _ =
    let first = c.in-Some.ensures in
    let ws = c.self.inside.stock.order.all in
    let is_sub = c.get.ensures.sub first.at first.waiter first.there in
    let there = sub_at ws first.at (c.in-Some.key, first.waiter) first.there ∙ ap (λ (x : Subscription). Some x) (sym is_sub) in
    let there_again = sub_at ws first.at (c.in-Some.key, first.waiter) first.there ∙ ap (λ (x : Subscription). Some x) (sym (c.get-2.ensures.sub first.at first.waiter first.there)) in
    let whole = ap (λ (b : TablesValue). b.broken) c.self.view_is ∙ c.requires.whole in
    let kept = c.self.invariant whole in
    let a = c.self.inside in
    let s = shown a.count a.sessions.entries a.durables a.stock in
    let sub = c.get.result.now in
    let items = c.in_ok-settled.settled.items in
    let given = c.in_ok-settled.ensures.settled first.at first.waiter first.there ∙ ap (λ (x : Subscription). settled x.mode c.args.delivery x.unacknowledged) (sym is_sub) in
    let tallied = kept.whole in
    let at = first.at in
    let own_given = c.has_own_line-own.result in
    let own : own_given ≡ is_own sub = c.has_own_line-own.ensures ∙ ap is_own (same_Some c.get-2.result.now sub (sym there_again ∙ there)) in
    let fits : c.finds_room.result ≡ true = search rules in
    let few : held_messages s ≤ 4096 = omega (arith, tallied.messages, tallied.few) in
    let queues = c.stand_in_order.ensures.queues in
    let done = c.in_ok-move_refused.ensures in
    let gone = sum_by (λ (delivery : ℕ × Message). one delivery.1) items in
    let gone_bytes = sum_by (λ (delivery : ℕ × Message). bytes delivery.1) items in
    let part : gone ≤ a.stock.held.messages = omega (arith, part_of s c.args.session c.args.member c.args.delivery at sub first.first there one, ap (sum_by (λ delivery. one delivery.1)) given, tallied.messages) in
    let part_bytes : gone_bytes ≤ a.stock.held.bytes = omega (arith, part_of s c.args.session c.args.member c.args.delivery at sub first.first there bytes, ap (sum_by (λ delivery. bytes delivery.1)) given, tallied.bytes) in
    let less : a.stock.held.messages - gone + gone ≡ a.stock.held.messages = omega (arith, part) in
    let less_bytes : a.stock.held.bytes - gone_bytes + gone_bytes ≡ a.stock.held.bytes = omega (arith, part_bytes) in
    let counts = nack_counts s c.args.session c.args.member c.args.delivery at sub first.first there queues few own_given items a.stock.held.messages a.stock.held.bytes (a.stock.held.messages - gone) (a.stock.held.bytes - gone_bytes) c.move_refused.new.held.messages c.move_refused.new.held.bytes own given tallied.messages tallied.bytes less less_bytes (omega (arith, done.held.messages, less)) (omega (arith, done.held.bytes, less_bytes)) in
    let small = nack_small s c.args.session c.args.member c.args.delivery at sub first.first there own_given items a.stock.held.bytes (a.stock.held.bytes - gone_bytes) own given less_bytes (sym c.finds_room.ensures ∙ fits) in
    let lines = nack_lines s c.args.session c.args.member c.args.delivery at sub first.first there own_given items c.move_refused.new.shared own given done.lines in
    let changes = c.in_ok-settled.ensures.unsettled first.at first.waiter first.there in
    let left = ap (λ (o : Waiting). subs_of o.all) changes ∙ subs_changed (settled_by c.args.delivery) ws first.at in
    let state = nack_state s c.args.session c.args.member c.args.delivery at sub first.first there (subs_of c.take_refused.new.order.all) c.move_refused.new.shared left lines in
    let IsUnder = λ (sub : Subscription). IsOver a.stock.next_delivery sub.unacknowledged in
    record {
      whole = record {
        messages = counts.0 ∙ sym (ap held_messages state);
        bytes = counts.1 ∙ sym (ap held_bytes state);
        few = omega (arith, counts.0, nack_fewer s c.args.session c.args.member c.args.delivery at sub first.first there queues few, few);
        small = omega (arith, done.held.bytes, less_bytes, small);
        next = subst (AllByRecursion IsUnder) (sym left) (all_changed IsUnder (settled_by c.args.delivery) (over_settled_by a.stock.next_delivery c.args.delivery) (subs_of a.stock.order.all) at tallied.next);
        deliveries = tallied.deliveries;
        tickets = omega (arith, tallied.tickets, ap (λ (o : Waiting). o.next) changes);
      };
      ready =
          let t = stocked (record a.stock { order = c.take_refused.new.order; shared = c.move_refused.new.shared }) in
          let mine = λ (x : Subscription) (is : slice_get (subs_of a.stock.order.all) at ≡ Some x). (and_parts (is_of c.args.session x) (has_delivery c.args.delivery x.unacknowledged) (first.first.passing x is)).0 in
          let keys = c.take_refused.new.marked.items in
          let same = λ (x : Subscription) (other : is_due keys x ≡ false). ap (λ (h : Shared). line_for h x) lines ∙ refused_elsewhere (kept_from s c.args.session c.args.member c.args.delivery sub) a.stock.shared x (unless (is_plain_at dead_queue x) (is_due keys x) (c.in_ok-settled.ensures.dead x) other) in
          due_changed a.due.items s kept.ready t keys c.in_ok-settled.ensures.kept refl same at (settled_by c.args.delivery) left (λ x is. c.in_ok-settled.ensures.session (settled_by c.args.delivery x) (mine x is));
    }

pub returns-clause-nacked : goal.returns-clause-nacked
returns-clause-nacked c =
    let first = c.in-Some.ensures in
    let ws = c.self.inside.stock.order.all in
    let is_sub = c.get.ensures.sub first.at first.waiter first.there in
    let there = sub_at ws first.at (c.in-Some.key, first.waiter) first.there ∙ ap (λ (x : Subscription). Some x) (sym is_sub) in
    let there_again = sub_at ws first.at (c.in-Some.key, first.waiter) first.there ∙ ap (λ (x : Subscription). Some x) (sym (c.get-2.ensures.sub first.at first.waiter first.there)) in
    let whole = ap (λ (b : TablesValue). b.broken) c.self.view_is ∙ c.requires.whole in
    let kept = c.self.invariant whole in
    let a = c.self.inside in
    let s = shown a.count a.sessions.entries a.durables a.stock in
    let at = first.at in
    let sub = c.get.result.now in
    let gone = gone_of s c.args.session c.args.member c.args.delivery at sub first.first there in
    let own_given = c.has_own_line-own.result in
    let given = c.in_ok-settled.ensures.settled first.at first.waiter first.there ∙ ap (λ (x : Subscription). settled x.mode c.args.delivery x.unacknowledged) (sym is_sub) in
    let own : own_given ≡ is_own sub = c.has_own_line-own.ensures ∙ ap is_own (same_Some c.get-2.result.now sub (sym there_again ∙ there)) in
    let fits : c.finds_room.result ≡ true = search rules in
    let room = ap (λ n. nat_le (n - sum_by (λ delivery. bytes delivery.1) gone + all_kept_bytes (is_own sub) gone) 16777216) (sym kept.whole.bytes) ∙ sym c.finds_room.ensures ∙ fits in
    let lines = nack_lines s c.args.session c.args.member c.args.delivery at sub first.first there own_given c.in_ok-settled.settled.items c.move_refused.new.shared own given c.in_ok-move_refused.ensures.lines in
    let state = nack_state s c.args.session c.args.member c.args.delivery at sub first.first there (subs_of c.take_refused.new.order.all) c.move_refused.new.shared (ap (λ (o : Waiting). subs_of o.all) (c.in_ok-settled.ensures.unsettled first.at first.waiter first.there) ∙ subs_changed (settled_by c.args.delivery) ws first.at) lines in
    rw (← c.self.view_is) (nack_by s c.args.session c.args.member c.args.delivery at sub first.first there c.stand_in_order.ensures.queues (omega (arith, kept.whole.messages, kept.whole.few)) true room
    ∙ ap (λ t. Ok t) (sym state))
