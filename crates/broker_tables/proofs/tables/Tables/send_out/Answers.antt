use Rattle.std.proofs.Common.{◌≡◌, ◌∙◌, [], List, IfSome, Option, ap, false, length, refl, subst, sym, true, ℕ}
use Rattle.line_core.specs.Messages.{size_of}
use Rattle.broker_state.specs.Operations.{fanned_out, message_of, sent}
use Rattle.broker_state.specs.Parts.{find_room}
use Rattle.broker_state.proofs.Sendings.{room_by, sent_by}
use Rattle.waiting_order.specs.Waiting.{subs_of}
use Rattle.broker_tables.specs.declared.due.Due.{Due}
use Rattle.broker_tables.specs.AtOnce.{AreSwift, names_bound}
use Rattle.broker_tables.specs.Dues.{AreDue}
use Rattle.broker_tables.specs.Sendings.{IsAccepted}
use Rattle.broker_tables.specs.Stocks.{shown, stocked}
use Rattle.broker_tables.specs.Tables.{TablesValue}
use Rattle.broker_tables.proofs.Dues.{none_due}
use Rattle.broker_tables.proofs.Turning.{copies_swift, none_due_ready}
use Rattle.broker_tables.proofs.tables.Tables.send_out.Goals as goal

pub hand_to_each-requires-clause-none : goal.hand_to_each-requires-clause-none
hand_to_each-requires-clause-none c =
    let a = c.self.inside in
    let kept = c.self.invariant (ap (λ (b : TablesValue). b.broken) c.self.view_is ∙ c.requires.whole) in
    let none : a.due.items ≡ [] = sym c.as_slice.ensures.value ∙ subst (λ (o : Option (ℕ × ℕ)). IfSome o (λ _. c.as_slice.result.now ≡ [])) c.in-Some.is c.swift_group-swift.ensures.due in
    none_due_ready (stocked a.stock) (subs_of a.stock.order.all) (subst (λ (l : List Due). AreDue l (stocked a.stock)) none kept.ready)

pub invariant_of-self-2 : goal.invariant_of-self-2
invariant_of-self-2 c _ =
    let a = c.self.inside in
    let new = c.hand_to_each.new.self in
    let none : a.due.items ≡ [] = sym c.as_slice.ensures.value ∙ subst (λ (o : Option (ℕ × ℕ)). IfSome o (λ _. c.as_slice.result.now ≡ [])) c.in-Some.is c.swift_group-swift.ensures.due in
    record {
      whole = c.in_ok-hand_to_each.ensures.stocked;
      ready = subst (λ (l : List Due). AreDue l (stocked new)) (sym none) (none_due (stocked new) (subs_of new.order.all) c.in_ok-hand_to_each.ensures.none);
    }

pub returns-clause-sent : goal.returns-clause-sent
returns-clause-sent c =
    let a = c.self.inside in
    let kept = c.self.invariant (ap (λ (b : TablesValue). b.broken) c.self.view_is ∙ c.requires.whole) in
    let s = shown a.count a.sessions.entries a.durables a.stock in
    let sending = c.args.sending in
    let m = message_of a.count 0 sending in
    let held = a.stock.held in
    let group = c.in-Some.group in
    let count = c.in-Some.count in
    let none : a.due.items ≡ [] = sym c.as_slice.ensures.value ∙ subst (λ (o : Option (ℕ × ℕ)). IfSome o (λ _. c.as_slice.result.now ≡ [])) c.in-Some.is c.swift_group-swift.ensures.due in
    let nameless = subst (λ (o : Option (ℕ × ℕ)). IfSome o (λ _. names_bound sending.destination a.durables ≡ 0)) c.in-Some.is c.swift_group-swift.ensures.names in
    let room = subst (λ (o : Option (ℕ × ℕ)). IfSome o (λ g. find_room held.messages held.bytes g.1 (size_of sending) ≡ true)) c.in-Some.is c.swift_group-swift.ensures.room in
    let swift = subst (λ (o : Option (ℕ × ℕ)). IfSome o (λ g. AreSwift a.stock sending.destination g.0 g.1)) c.in-Some.is c.swift_group-swift.ensures.swift in
    let sorted = c.stand_in_order.ensures in
    let each = c.in_ok-hand_to_each.ensures.each a.sessions.entries a.durables nameless in
    let now : TablesValue = record { state = shown a.count a.sessions.entries a.durables c.hand_to_each.new.self; broken = false; due = length a.due.items } in
    subst (λ (b : TablesValue). IsAccepted (sent b.state 0 sending) c.args.answers.now now c.hand_to_each.new.answers) c.self.view_is (record {
      before = fanned_out s m;
      accepted = sent_by s 0 sending true (room_by s m sorted.names sorted.queues held.messages held.bytes count (size_of sending) kept.whole.messages kept.whole.bytes (copies_swift a.stock sending.destination group count a.durables swift nameless) refl ∙ room);
      state = each.0;
      outs = each.1;
      due = ap length none;
    })
