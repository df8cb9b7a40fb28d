use Rattle.std.proofs.Common.{◌≡◌, ◌∙◌, List, true, ap, subst, sym}
use Rattle.std.specs.Option.{option_copied_mut}
use Rattle.std.proofs.lemmas.Option.{same_Some}
use Rattle.std.proofs.lemmas.Result.{IfOk-weaker, on_err_weaker, on_ok_weaker}
use Rattle.line_core.specs.Flights.{has_delivery, settled}
use Rattle.broker_state.specs.Operations.{settled_by}
use Rattle.waiting_order.specs.Keeping.{settled_at}
use Rattle.waiting_order.specs.declared.waiters.Waiter.{Waiter}
use Rattle.waiting_order.proofs.LastSlots.{lasts_changed}
use Rattle.waiting_order.proofs.Timed.{W, at_its_key, at_key, changed_same, order_changed, there_mut, there_now, timed_changed}
use Rattle.waiting_order.proofs.waiters.Waiters.settle.Goals as goal

pub unwrap-waiter-requires : goal.unwrap-waiter-requires
unwrap-waiter-requires c =
    let a = c.self.inside in
    let r = rw (← c.self.view_is) at c.requires in
    there_mut c.get_mut.result r.1 (c.get_mut.ensures.value ∙ at_its_key a.next a.all.entries c.self.invariant.timed r.0 (c.args.key, r.1) r.2)

pub settle-requires : goal.settle-requires
settle-requires c =
    let a = c.self.inside in
    let r = rw (← c.self.view_is) at c.requires in
    let there = at_its_key a.next a.all.entries c.self.invariant.timed r.0 (c.args.key, r.1) r.2 in
    let now : c.unwrap-waiter.result.now ≡ r.1 = same_Some c.unwrap-waiter.result.now r.1 (ap option_copied_mut (sym c.unwrap-waiter.ensures) ∙ c.get_mut.ensures.value ∙ there) in
    subst (λ (x : Waiter). has_delivery c.args.delivery x.sub.unacknowledged ≡ true) (sym now) r.3

pub invariant_of-self : goal.invariant_of-self
invariant_of-self c =
    let a = c.self.inside in
    let r = rw (← c.self.view_is) at c.requires in
    let there = at_its_key a.next a.all.entries c.self.invariant.timed r.0 (c.args.key, r.1) r.2 in
    let now : c.unwrap-waiter.result.now ≡ r.1 = same_Some c.unwrap-waiter.result.now r.1 (ap option_copied_mut (sym c.unwrap-waiter.ensures) ∙ c.get_mut.ensures.value ∙ there) in
    let vs = c.get_mut.follows.lender c.settle.new.self in
    let h = c.get_mut.follows.holds c.settle.new.self in
    let up = h.3 (there_now (at_key c.args.key a.all.entries) r.1 there) in
    let ticket = c.settle.ensures.ticket ∙ ap (λ (x : Waiter). x.ticket) now in
    record {
      timed = timed_changed a.next a.next a.all.entries vs.entries c.self.invariant.timed h.4 c.args.key r.1 c.settle.new.self there up.1 ticket up.2;
      lasts = lasts_changed a.lasts a.all.entries vs.entries c.args.key up.2 r.1 c.settle.new.self there up.1 c.self.invariant.lasts;
    }

pub returns-clause-unsettled : goal.returns-clause-unsettled
returns-clause-unsettled c =
    let a = c.self.inside in
    let r = rw (← c.self.view_is) at c.requires in
    let there = at_its_key a.next a.all.entries c.self.invariant.timed r.0 (c.args.key, r.1) r.2 in
    let now : c.unwrap-waiter.result.now ≡ r.1 = same_Some c.unwrap-waiter.result.now r.1 (ap option_copied_mut (sym c.unwrap-waiter.ensures) ∙ c.get_mut.ensures.value ∙ there) in
    let vs = c.get_mut.follows.lender c.settle.new.self in
    let h = c.get_mut.follows.holds c.settle.new.self in
    let up = h.3 (there_now (at_key c.args.key a.all.entries) r.1 there) in
    let ticket = c.settle.ensures.ticket ∙ ap (λ (x : Waiter). x.ticket) now in
    rw (← c.self.view_is) (on_ok_weaker c.settle.result (λ is at s at_s.
    let was = at_its_key a.next a.all.entries c.self.invariant.timed at (c.args.key, s) at_s in
    let same : c.unwrap-waiter.result.now ≡ s = same_Some c.unwrap-waiter.result.now s (ap option_copied_mut (sym c.unwrap-waiter.ensures) ∙ c.get_mut.ensures.value ∙ was) in
    let ticket = c.settle.ensures.ticket ∙ ap (λ (x : Waiter). x.ticket) same in
    ap (λ (l : List W). record { all = l; next = a.next }) (order_changed a.next a.next a.all.entries vs.entries c.self.invariant.timed h.4 c.args.key s c.settle.new.self was up.1 ticket up.2 (settled_at c.args.delivery) (ap (λ (x : Waiter). (c.args.key, x)) (is ∙ ap (λ (x : Waiter). record x { sub = settled_by c.args.delivery x.sub }) same)) at at_s)) c.settle.ensures.unsettled)

pub returns-clause-same : goal.returns-clause-same
returns-clause-same c =
    let a = c.self.inside in
    let r = rw (← c.self.view_is) at c.requires in
    let there = at_its_key a.next a.all.entries c.self.invariant.timed r.0 (c.args.key, r.1) r.2 in
    let now : c.unwrap-waiter.result.now ≡ r.1 = same_Some c.unwrap-waiter.result.now r.1 (ap option_copied_mut (sym c.unwrap-waiter.ensures) ∙ c.get_mut.ensures.value ∙ there) in
    let vs = c.get_mut.follows.lender c.settle.new.self in
    let h = c.get_mut.follows.holds c.settle.new.self in
    let up = h.3 (there_now (at_key c.args.key a.all.entries) r.1 there) in
    let ticket = c.settle.ensures.ticket ∙ ap (λ (x : Waiter). x.ticket) now in
    rw (← c.self.view_is) (on_err_weaker c.settle.result (λ is.
    let at = r.0 in
    let s = r.1 in
    let at_s = r.2 in
    let was = at_its_key a.next a.all.entries c.self.invariant.timed at (c.args.key, s) at_s in
    let same : c.unwrap-waiter.result.now ≡ s = same_Some c.unwrap-waiter.result.now s (ap option_copied_mut (sym c.unwrap-waiter.ensures) ∙ c.get_mut.ensures.value ∙ was) in
    let ticket = c.settle.ensures.ticket ∙ ap (λ (x : Waiter). x.ticket) same in
    ap (λ (l : List W). record { all = l; next = a.next }) (order_changed a.next a.next a.all.entries vs.entries c.self.invariant.timed h.4 c.args.key s c.settle.new.self was up.1 ticket up.2 (λ w. w) (ap (λ (x : Waiter). (c.args.key, x)) (is ∙ same)) at at_s ∙ changed_same a.next a.all.entries at)) c.settle.ensures.same)

pub returns-clause-settled : goal.returns-clause-settled
returns-clause-settled c =
    let a = c.self.inside in
    let r = rw (← c.self.view_is) at c.requires in
    let there = at_its_key a.next a.all.entries c.self.invariant.timed r.0 (c.args.key, r.1) r.2 in
    let now : c.unwrap-waiter.result.now ≡ r.1 = same_Some c.unwrap-waiter.result.now r.1 (ap option_copied_mut (sym c.unwrap-waiter.ensures) ∙ c.get_mut.ensures.value ∙ there) in
    rw (← c.self.view_is) (IfOk-weaker c.settle.result _ _ (λ out is at s at_s.
    let was = at_its_key a.next a.all.entries c.self.invariant.timed at (c.args.key, s) at_s in
    let same : c.unwrap-waiter.result.now ≡ s = same_Some c.unwrap-waiter.result.now s (ap option_copied_mut (sym c.unwrap-waiter.ensures) ∙ c.get_mut.ensures.value ∙ was) in
    is ∙ ap (λ (x : Waiter). settled x.sub.mode c.args.delivery x.sub.unacknowledged) same) c.settle.ensures.settled)
