use Rattle.std.proofs.Common.{◌≡◌, ◌+◌, ◌++◌, ◌∷◌, ◌∙◌, [], List, Some, ap, arith, drop, refl, remove, slice_get, ℕ}
use Rattle.line_core.specs.Flights.{IsOver}
use Rattle.broker_state.specs.declared.subscription.Subscription.{Subscription}
use Rattle.broker_state.specs.HandOut.{delivered, message_out}
use Rattle.broker_state.specs.States.{bytes, one, weight_of_subscription}
use Rattle.broker_state.specs.Waiting.{left_line, line_for}
use Rattle.broker_state.proofs.Served.{number_of_ready}
use Rattle.broker_state.proofs.Weights.{all_at, sum_by-part}
use Rattle.waiting_order.specs.declared.waiters.Waiter.{Waiter}
use Rattle.waiting_order.specs.Keeping.{with_sub}
use Rattle.waiting_order.specs.Waiting.{Waiting, subs_of}
use Rattle.broker_tables.specs.Stocks.{stocked}
use Rattle.broker_tables.proofs.Handing.{was_waiting}
use Rattle.broker_tables.proofs.Waiters.{W, changed_removed, changed_there, sub_at}
use Rattle.broker_tables.proofs.stock.Stock.serve.Goals as goal

pub deliver-requires-clause-over : goal.deliver-requires-clause-over
deliver-requires-clause-over c =
    let ready = c.requires.ready in
    let stock = c.args.self.now in
    let at = ready.at in
    let s = ready.waiter in
    let taken = c.take_for-message.ensures.order at s ready.there in
    let f : Subscription → Subscription = λ x. left_line x (drop 1 (line_for stock.shared s.sub)) in
    let over = all_at (λ x. IsOver stock.next_delivery x.unacknowledged) (subs_of stock.order.all) at s.sub (sub_at stock.order.all at (c.args.key, s) ready.there) c.requires.stocked.next in
    (at, record s { sub = f s.sub }, ap (λ (o : Waiting). slice_get o.all at) taken ∙ changed_there (with_sub f) stock.order.all at (c.args.key, s) ready.there, over)

pub deliver-requires-clause-held : goal.deliver-requires-clause-held
deliver-requires-clause-held c =
    let ready = c.requires.ready in
    let stock = c.args.self.now in
    let at = ready.at in
    let s = ready.waiter in
    let kept = c.requires.stocked in
    let there = sub_at stock.order.all at (c.args.key, s) ready.there in
    let line = line_for stock.shared s.sub in
    let m = c.take_for-message.result in
    let taken = c.take_for-message.ensures.taken at s ready.there in
    let weight = (c.take_for-message.ensures.left at s ready.there).weight in (
      was_waiting one line m _ _ _ taken (weight one) (omega (arith, kept.messages, sum_by-part (weight_of_subscription one) (subs_of stock.order.all) at s.sub there)),
      was_waiting bytes line m _ _ _ taken (weight bytes) (omega (arith, kept.bytes, sum_by-part (weight_of_subscription bytes) (subs_of stock.order.all) at s.sub there)),
    )

pub move_last-requires-clause-there : goal.move_last-requires-clause-there
move_last-requires-clause-there c =
    let ready = c.requires.ready in
    let stock = c.args.self.now in
    let at = ready.at in
    let s = ready.waiter in
    let f : Subscription → Subscription = λ x. left_line x (drop 1 (line_for stock.shared s.sub)) in
    let g : Subscription → Subscription = λ x. delivered x stock.next_delivery c.take_for-message.result in
    let s1 : Waiter = record s { sub = f s.sub } in
    let taken = c.take_for-message.ensures.order at s ready.there in
    let there : slice_get c.take_for-message.new.order.all at ≡ Some (c.args.key, s1) = ap (λ (o : Waiting). slice_get o.all at) taken ∙ changed_there (with_sub f) stock.order.all at (c.args.key, s) ready.there in
    (at, record s { sub = g (f s.sub) }, ap (λ (o : Waiting). slice_get o.all at) (c.in_ok-deliver.ensures.delivered at s1 there) ∙ changed_there (with_sub g) c.take_for-message.new.order.all at (c.args.key, s1) there)

pub move_last-requires-clause-number : goal.move_last-requires-clause-number
move_last-requires-clause-number c =
    let ready = c.requires.ready in
    let stock = c.args.self.now in
    let at = ready.at in
    let s = ready.waiter in
    let f : Subscription → Subscription = λ x. left_line x (drop 1 (line_for stock.shared s.sub)) in
    let s1 : Waiter = record s { sub = f s.sub } in
    let taken = c.take_for-message.ensures.order at s ready.there in
    let there : slice_get c.take_for-message.new.order.all at ≡ Some (c.args.key, s1) = ap (λ (o : Waiting). slice_get o.all at) taken ∙ changed_there (with_sub f) stock.order.all at (c.args.key, s) ready.there in
    let few = number_of_ready (stocked stock) s.sub (ready.first.passing s.sub (sub_at stock.order.all at (c.args.key, s) ready.there)) in
    omega (arith, few, c.requires.stocked.tickets, ap (λ (o : Waiting). o.next) taken, ap (λ (o : Waiting). o.next) (c.in_ok-deliver.ensures.delivered at s1 there))

pub returns : goal.returns
returns c =
    let ready = c.requires.ready in
    let stock = c.args.self.now in
    let at = ready.at in
    let s = ready.waiter in
    let m = c.take_for-message.result in
    let f : Subscription → Subscription = λ x. left_line x (drop 1 (line_for stock.shared s.sub)) in
    let g : Subscription → Subscription = λ x. delivered x stock.next_delivery m in
    let s1 : Waiter = record s { sub = f s.sub } in
    let s2 : Waiter = record s { sub = g (f s.sub) } in
    let taken = c.take_for-message.ensures.order at s ready.there in
    let there : slice_get c.take_for-message.new.order.all at ≡ Some (c.args.key, s1) = ap (λ (o : Waiting). slice_get o.all at) taken ∙ changed_there (with_sub f) stock.order.all at (c.args.key, s) ready.there in
    let given = c.in_ok-deliver.ensures.delivered at s1 there in
    let there2 : slice_get c.deliver.new.order.all at ≡ Some (c.args.key, s2) = ap (λ (o : Waiting). slice_get o.all at) given ∙ changed_there (with_sub g) c.take_for-message.new.order.all at (c.args.key, s1) there in
    let left : remove c.deliver.new.order.all at ≡ remove stock.order.all at =
    ap (λ (o : Waiting). remove o.all at) given ∙ changed_removed (with_sub g) c.take_for-message.new.order.all at ∙ ap (λ (o : Waiting). remove o.all at) taken ∙ changed_removed (with_sub f) stock.order.all at in
    let next : c.deliver.new.order.next ≡ stock.order.next = ap (λ (o : Waiting). o.next) given ∙ ap (λ (o : Waiting). o.next) taken in
    let last : List W → ℕ → Waiting = λ l n. record { all = l ++ (c.args.key, record s2 { ticket = n }) ∷ []; next = n + 1 } in
    record {
      served = record {
        out = message_out c.args.number (f s.sub) stock.next_delivery m;
        served = record {
          at = at;
          waiter = s;
          sub = s2.sub;
          there = ready.there;
          first = ready.first;
          handed = record {
            message = m;
            left = f s.sub;
            taken = c.take_for-message.ensures.taken at s ready.there;
            rest = (c.take_for-message.ensures.left at s ready.there).rest;
            line = refl;
            weight = (c.take_for-message.ensures.left at s ready.there).weight;
            handed = refl;
            out = refl;
            messages = (c.in_ok-deliver.ensures.held at s1 there).messages;
            lighter = (c.in_ok-deliver.ensures.held at s1 there).lighter;
          };
          order = c.move_last.ensures at s2 there2 ∙ ap (λ (l : List W). last l c.deliver.new.order.next) left ∙ ap (last (remove stock.order.all at)) next;
          delivery = refl;
        };
        answers = c.in_ok-deliver.ensures.answers at s1 there;
      };
    }
