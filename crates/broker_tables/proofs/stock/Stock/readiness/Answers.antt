use Rattle.std.proofs.Common.{◌≡◌, ◌&&◌, ◌^◌, ◌∙◌, Bool, true, false, ap, nat_lt, not, refl, subst, sym}
use Rattle.broker_state.specs.declared.subscription.Subscription.{Subscription}
use Rattle.broker_state.specs.HandOut.{can_take, has_room}
use Rattle.broker_state.specs.Lists.{is_none}
use Rattle.broker_state.specs.Waiting.{line_for}
use Rattle.broker_tables.specs.Stocks.{stocked}
use Rattle.broker_tables.proofs.Scopes.{none_waits}
use Rattle.broker_tables.proofs.stock.Stock.readiness.Goals as goal

no_first : (a b c : Bool) → a ≡ false → (a && b && c) ≡ false
no_first true b c is = absurd cc
no_first false b c is = refl

no_second : (a b c : Bool) → b ≡ false → (a && b && c) ≡ false
no_second true true c is = absurd cc
no_second true false c is = refl
no_second false b c is = refl

no_third : (a b c : Bool) → c ≡ false → (a && b && c) ≡ false
no_third true true c is = is
no_third true false c is = refl
no_third false b c is = refl

all_three : (a b c : Bool) → a ≡ true → b ≡ true → c ≡ true → (a && b && c) ≡ true
all_three a b c x y z = rw (x, y, z) refl

pub returns-then-is_idle : goal.returns-then-is_idle
returns-then-is_idle c from until =
    let stock = c.args.self.now in
    let sub = c.get-sub.result.now in
    c.is_idle.ensures c.if-is_idle.true stock.shared (λ at s there. subst (λ (x : Subscription). is_none (line_for stock.shared x) ≡ true) (c.get-sub.ensures.sub at s there)
    (none_waits c.has_message.result (is_none (line_for stock.shared sub)) c.has_message.ensures (ap not c.if-not-has_message.true))) from until

pub returns-then-not-has_message : goal.returns-then-not-has_message
returns-then-not-has_message c at s there =
    let stock = c.args.self.now in
    let sub = c.get-sub.result.now in
    subst (λ (x : Subscription). can_take (stocked stock) x ≡ false) (c.get-sub.ensures.sub at s there)
    (no_third (nat_lt stock.next_delivery (2 ^ 63)) (has_room sub) (not (is_none (line_for stock.shared sub))) (sym c.has_message.ensures ∙ c.if-not-has_message.true))

pub returns-then-not-has_number : goal.returns-then-not-has_number
returns-then-not-has_number c at s there =
    no_first (nat_lt c.args.self.now.next_delivery (2 ^ 63)) (has_room s.sub) (not (is_none (line_for c.args.self.now.shared s.sub))) (sym c.has_number.ensures ∙ c.if-not-has_number.true)

pub returns-then-not-has_room : goal.returns-then-not-has_room
returns-then-not-has_room c at s there =
    let stock = c.args.self.now in
    let sub = c.get-sub.result.now in
    subst (λ (x : Subscription). can_take (stocked stock) x ≡ false) (c.get-sub.ensures.sub at s there)
    (no_second (nat_lt stock.next_delivery (2 ^ 63)) (has_room sub) (not (is_none (line_for stock.shared sub))) (sym c.has_room.ensures ∙ c.if-not-has_room.true))

pub returns : goal.returns
returns c at s there =
    let stock = c.args.self.now in
    let sub = c.get-sub.result.now in
    subst (λ (x : Subscription). can_take (stocked stock) x ≡ true) (c.get-sub.ensures.sub at s there)
    (all_three (nat_lt stock.next_delivery (2 ^ 63)) (has_room sub) (not (is_none (line_for stock.shared sub))) (sym c.has_number.ensures ∙ c.if-not-has_number.false) (sym c.has_room.ensures ∙ c.if-not-has_room.false) (sym c.has_message.ensures ∙ c.if-not-has_message.false))
