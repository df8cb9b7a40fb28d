use Rattle.std.proofs.Common.{◌≡◌, ◌∙◌, ◌+◌, ◌*◌, true, false, Ok, ap, arith, nat_le, rules, subst, sym}
use Rattle.std.proofs.lemmas.Bool.{and_parts}
use Rattle.std.proofs.lemmas.Bool.Decides.{nat_tests}
use Rattle.line_core.specs.Messages.{size_of}
use Rattle.broker_state.specs.Operations.{message_of}
use Rattle.broker_state.specs.Parts.{copies_to}
use Rattle.broker_state.specs.States.{IsNext, State, bytes, held_bytes, held_messages, one}
use Rattle.broker_tables.specs.Stocks.{shown}
use Rattle.broker_state.proofs.Sendings.{next-fanned_out, room_by, sent_by, weight-fanned_out}
use Rattle.broker_tables.specs.Dues.{AreDue}
use Rattle.broker_tables.specs.Tables.{TablesValue}
use Rattle.broker_tables.proofs.Dues.{due_sent}
use Rattle.broker_tables.proofs.tables.Tables.send.Goals as goal

pub returns-then-not-find_room-clause-sent : goal.returns-then-not-find_room-clause-sent
returns-then-not-find_room-clause-sent c =
    let whole = ap (λ (b : TablesValue). b.broken) c.self.view_is ∙ c.requires.whole in
    let kept = c.self.invariant whole in
    let a = c.self.inside in
    let s = shown a.count a.sessions.entries a.durables a.stock in
    let sorted = c.stand_in_order.ensures in
    let no : c.find_room.result ≡ false = search rules in
    let given = subst (λ (t : State). c.copies_to-copies.result ≡ copies_to c.destination.result.now t.durables t.subscriptions) (sym (ap (λ (b : TablesValue). b.state) c.self.view_is)) c.copies_to-copies.ensures in
    let copies : c.copies_to-copies.result ≡ copies_to c.args.sending.destination s.durables s.subscriptions = given ∙ ap (λ to. copies_to to s.durables s.subscriptions) c.destination.ensures.value in
    rw (← c.self.view_is) (sent_by s c.args.place c.args.sending false (room_by s (message_of a.count c.args.place c.args.sending) sorted.names sorted.queues a.stock.held.messages a.stock.held.bytes c.copies_to-copies.result c.size-bytes.result kept.whole.messages kept.whole.bytes copies c.size-bytes.ensures.size ∙ sym c.find_room.ensures ∙ no))

pub invariant_of-self-2 : goal.invariant_of-self-2
invariant_of-self-2 c _ =
    let whole = ap (λ (b : TablesValue). b.broken) c.self.view_is ∙ c.requires.whole in
    let kept = c.self.invariant whole in
    let a = c.self.inside in
    let s = shown a.count a.sessions.entries a.durables a.stock in
    let m = message_of a.count c.args.place c.args.sending in
    let tallied = kept.whole in
    let sorted = c.stand_in_order.ensures in
    let yes : c.find_room.result ≡ true = search rules in
    let fits = and_parts (nat_le (a.stock.held.messages + c.copies_to-copies.result) 4096) (nat_le (a.stock.held.bytes + c.copies_to-copies.result * c.size-bytes.result) 16777216) (sym c.find_room.ensures ∙ yes) in
    let given = subst (λ (t : State). c.copies_to-copies.result ≡ copies_to c.destination.result.now t.durables t.subscriptions) (sym (ap (λ (b : TablesValue). b.state) c.self.view_is)) c.copies_to-copies.ensures in
    let copies : c.copies_to-copies.result ≡ copies_to c.args.sending.destination s.durables s.subscriptions = given ∙ ap (λ to. copies_to to s.durables s.subscriptions) c.destination.ensures.value in
    let total : c.copies_to-copies.result * c.size-bytes.result ≡ copies_to c.args.sending.destination s.durables s.subscriptions * size_of c.args.sending = ap (λ n. n * c.size-bytes.result) copies ∙ ap (λ n. copies_to c.args.sending.destination s.durables s.subscriptions * n) c.size-bytes.ensures.size in
    let is = c.in_ok-take_in.ensures.fanned s in
    record {
      whole = record {
        messages = omega (arith, tallied.messages, weight-fanned_out s m sorted.names sorted.queues one, ap held_messages is, copies);
        bytes = omega (arith, tallied.bytes, weight-fanned_out s m sorted.names sorted.queues bytes, ap held_bytes is, total);
        few = let few = fits.0 in grind (arith, nat_tests);
        small = let small = fits.1 in grind (arith, nat_tests);
        next = subst IsNext is (next-fanned_out s m tallied.next);
        deliveries = tallied.deliveries;
        tickets = omega (arith, tallied.tickets, c.in_ok-take_in.ensures.number);
      };
      ready =
          subst (AreDue c.take_in.new.marked.items) is (due_sent m a.due.items s kept.ready c.take_in.new.marked.items c.in_ok-take_in.ensures.kept c.in_ok-take_in.ensures.plain c.in_ok-take_in.ensures.named);
    }

pub returns-clause-sent : goal.returns-clause-sent
returns-clause-sent c =
    let whole = ap (λ (b : TablesValue). b.broken) c.self.view_is ∙ c.requires.whole in
    let kept = c.self.invariant whole in
    let a = c.self.inside in
    let s = shown a.count a.sessions.entries a.durables a.stock in
    let sorted = c.stand_in_order.ensures in
    let yes : c.find_room.result ≡ true = search rules in
    let given = subst (λ (t : State). c.copies_to-copies.result ≡ copies_to c.destination.result.now t.durables t.subscriptions) (sym (ap (λ (b : TablesValue). b.state) c.self.view_is)) c.copies_to-copies.ensures in
    let copies : c.copies_to-copies.result ≡ copies_to c.args.sending.destination s.durables s.subscriptions = given ∙ ap (λ to. copies_to to s.durables s.subscriptions) c.destination.ensures.value in
    rw (← c.self.view_is) (sent_by s c.args.place c.args.sending true (room_by s (message_of a.count c.args.place c.args.sending) sorted.names sorted.queues a.stock.held.messages a.stock.held.bytes c.copies_to-copies.result c.size-bytes.result kept.whole.messages kept.whole.bytes copies c.size-bytes.ensures.size ∙ sym c.find_room.ensures ∙ yes)
    ∙ ap (λ t. Ok t) (c.in_ok-take_in.ensures.fanned s))
