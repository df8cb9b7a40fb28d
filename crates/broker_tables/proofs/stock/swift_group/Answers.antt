use Rattle.std.proofs.Common.{◌≡◌, ◌+◌, ◌<◌, ◌^◌, ◌∙◌, List, ap, arith, subst, sym, ℕ}
use Rattle.std.proofs.lemmas.Bool.Decides.{nat_tests}
use Rattle.broker_state.specs.Parts.{find_room}
use Rattle.waiting_order.specs.Directories.{IsGroup, is_plain_at}
use Rattle.broker_tables.specs.AtOnce.{AreSwift, names_bound}
use Rattle.broker_tables.proofs.stock.swift_group.Goals as goal

pub returns-clause-names : goal.returns-clause-names
returns-clause-names c =
    let none : c.names_of.result ≡ 0 = grind (arith, nat_tests) in
    ap (λ (to : List ℕ). names_bound to c.args.durables.now) (sym c.destination-to.ensures.value) ∙ sym c.names_of.ensures.counted ∙ none

pub returns-clause-room : goal.returns-clause-room
returns-clause-room c =
    let held = c.args.stock.now.held in
    ap (λ (n : ℕ). find_room held.messages held.bytes c.count_at-count.result n) (sym c.size.ensures.size) ∙ sym c.find_room.ensures ∙ c.if-not-find_room.false

pub returns-clause-swift : goal.returns-clause-swift
returns-clause-swift c =
    let stock = c.args.stock.now in
    let nobody : c.count_behind.result ≡ 0 = grind (arith, nat_tests) in
    let few : stock.next_delivery + c.count_at-count.result < 2 ^ 63 = grind (arith, nat_tests) in
    subst (λ (to : List ℕ). AreSwift stock to c.in-Some.group c.count_at-count.result) c.destination-to.ensures.value (record {
      topic = sym c.is_queue.ensures ∙ c.if-is_queue.false;
      listeners = subst (IsGroup (is_plain_at c.destination-to.result.now) stock.order.all) c.in-Some.is c.group_at.ensures;
      counted = c.count_at-count.ensures.count;
      caught_up = sym c.count_behind.ensures ∙ nobody;
      auto = c.are_auto.ensures c.if-not-are_auto.false;
      numbers = few;
    })
