use Rattle.std.proofs.Common.{◌≡◌, ◌∙◌, ap, arith, subst, sym, true}
use Rattle.broker_state.specs.declared.subscription.Subscription.{Subscription}
use Rattle.broker_state.specs.HandOut.{is_auto}
use Rattle.waiting_order.specs.Directories.{IsNext, is_in}
use Rattle.broker_tables.proofs.Turning.{auto_further, auto_to_end}
use Rattle.broker_tables.proofs.stock.are_auto.Goals as goal

pub loop-place-init : goal.loop-place-init
loop-place-init c i w there under inside = absurd (omega (arith, under))

pub loop-place-preserved : goal.loop-place-preserved
loop-place-preserved c =
    let o = c.args.order.now in
    let next = subst (IsNext (is_in c.args.group) o.all c.loop-place.from) c.in-Some.is c.next_in.ensures in
    let auto : is_auto next.waiter.sub.mode ≡ true = ap (λ (x : Subscription). is_auto x.mode) (sym (c.get.ensures.sub next.at next.waiter next.there)) ∙ sym c.is_auto.ensures ∙ c.if-not-is_auto.false in
    auto_further c.args.group o c.loop-place.from c.in-Some.place c.stand_in_order.ensures.order next auto c.loop-place.invariant

pub returns : goal.returns
returns c _ =
    let ws = c.args.order.now.all in
    auto_to_end c.args.group ws c.loop-place.from (subst (IsNext (is_in c.args.group) ws c.loop-place.from) c.in_default.is c.next_in.ensures) c.loop-place.invariant
