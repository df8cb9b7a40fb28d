use Rattle.std.proofs.Common.{◌≡◌, ◌++◌, ◌∷◌, ◌∙◌, [], List, ap, subst, sym}
use Rattle.std.specs.Option.{option_copied_mut}
use Rattle.std.proofs.lemmas.Option.{same_Some}
use Rattle.std.proofs.lemmas.Result.{on_err_weaker, on_ok_weaker}
use Rattle.line_core.specs.Flights.{IsOver}
use Rattle.waiting_order.specs.Keeping.{kept_by}
use Rattle.waiting_order.specs.declared.waiters.Waiter.{Waiter}
use Rattle.waiting_order.proofs.LastSlots.{lasts_changed}
use Rattle.waiting_order.proofs.Timed.{W, at_its_key, at_key, changed_same, order_changed, there_mut, there_now, timed_changed}
use Rattle.waiting_order.proofs.waiters.Waiters.keep.Goals as goal

pub unwrap-waiter-requires : goal.unwrap-waiter-requires
unwrap-waiter-requires c =
    let a = c.self.inside in
    let r = rw (← c.self.view_is) at c.requires in
    there_mut c.get_mut.result r.1 (c.get_mut.ensures.value ∙ at_its_key a.next a.all.entries c.self.invariant.timed r.0 (c.args.key, r.1) r.2)

pub keep-requires : goal.keep-requires
keep-requires c =
    let a = c.self.inside in
    let r = rw (← c.self.view_is) at c.requires in
    let there = at_its_key a.next a.all.entries c.self.invariant.timed r.0 (c.args.key, r.1) r.2 in
    let now : c.unwrap-waiter.result.now ≡ r.1 = same_Some c.unwrap-waiter.result.now r.1 (ap option_copied_mut (sym c.unwrap-waiter.ensures) ∙ c.get_mut.ensures.value ∙ there) in
    subst (λ (x : Waiter). IsOver c.args.delivery x.sub.unacknowledged) (sym now) r.3

pub invariant_of-self : goal.invariant_of-self
invariant_of-self c =
    let a = c.self.inside in
    let r = rw (← c.self.view_is) at c.requires in
    let there = at_its_key a.next a.all.entries c.self.invariant.timed r.0 (c.args.key, r.1) r.2 in
    let now : c.unwrap-waiter.result.now ≡ r.1 = same_Some c.unwrap-waiter.result.now r.1 (ap option_copied_mut (sym c.unwrap-waiter.ensures) ∙ c.get_mut.ensures.value ∙ there) in
    let vs = c.get_mut.follows.lender c.keep.new.self in
    let h = c.get_mut.follows.holds c.keep.new.self in
    let up = h.3 (there_now (at_key c.args.key a.all.entries) r.1 there) in
    let ticket = c.keep.ensures.ticket ∙ ap (λ (x : Waiter). x.ticket) now in
    record {
      timed = timed_changed a.next a.next a.all.entries vs.entries c.self.invariant.timed h.4 c.args.key r.1 c.keep.new.self there up.1 ticket up.2;
      lasts = lasts_changed a.lasts a.all.entries vs.entries c.args.key up.2 r.1 c.keep.new.self there up.1 c.self.invariant.lasts;
    }

pub returns-clause-ok : goal.returns-clause-ok
returns-clause-ok c =
    let a = c.self.inside in
    let r = rw (← c.self.view_is) at c.requires in
    let there = at_its_key a.next a.all.entries c.self.invariant.timed r.0 (c.args.key, r.1) r.2 in
    let now : c.unwrap-waiter.result.now ≡ r.1 = same_Some c.unwrap-waiter.result.now r.1 (ap option_copied_mut (sym c.unwrap-waiter.ensures) ∙ c.get_mut.ensures.value ∙ there) in
    let vs = c.get_mut.follows.lender c.keep.new.self in
    let h = c.get_mut.follows.holds c.keep.new.self in
    let up = h.3 (there_now (at_key c.args.key a.all.entries) r.1 there) in
    let ticket = c.keep.ensures.ticket ∙ ap (λ (x : Waiter). x.ticket) now in
    rw (← c.self.view_is) (on_ok_weaker c.keep.result (λ is at s at_s.
    let was = at_its_key a.next a.all.entries c.self.invariant.timed at (c.args.key, s) at_s in
    let same : c.unwrap-waiter.result.now ≡ s = same_Some c.unwrap-waiter.result.now s (ap option_copied_mut (sym c.unwrap-waiter.ensures) ∙ c.get_mut.ensures.value ∙ was) in
    let ticket = c.keep.ensures.ticket ∙ ap (λ (x : Waiter). x.ticket) same in
    ap (λ (l : List W). record { all = l; next = a.next }) (order_changed a.next a.next a.all.entries vs.entries c.self.invariant.timed h.4 c.args.key s c.keep.new.self was up.1 ticket up.2 (kept_by c.args.delivery c.args.message) (ap (λ (x : Waiter). (c.args.key, x)) (is ∙ ap (λ (x : Waiter). record x { sub = record x.sub { unacknowledged = x.sub.unacknowledged ++ (c.args.delivery, c.args.message) ∷ [] } }) same)) at at_s)) c.keep.ensures.ok)

pub returns-clause-same : goal.returns-clause-same
returns-clause-same c =
    let a = c.self.inside in
    let r = rw (← c.self.view_is) at c.requires in
    let there = at_its_key a.next a.all.entries c.self.invariant.timed r.0 (c.args.key, r.1) r.2 in
    let now : c.unwrap-waiter.result.now ≡ r.1 = same_Some c.unwrap-waiter.result.now r.1 (ap option_copied_mut (sym c.unwrap-waiter.ensures) ∙ c.get_mut.ensures.value ∙ there) in
    let vs = c.get_mut.follows.lender c.keep.new.self in
    let h = c.get_mut.follows.holds c.keep.new.self in
    let up = h.3 (there_now (at_key c.args.key a.all.entries) r.1 there) in
    let ticket = c.keep.ensures.ticket ∙ ap (λ (x : Waiter). x.ticket) now in
    rw (← c.self.view_is) (on_err_weaker c.keep.result (λ is.
    let at = r.0 in
    let s = r.1 in
    let at_s = r.2 in
    let was = at_its_key a.next a.all.entries c.self.invariant.timed at (c.args.key, s) at_s in
    let same : c.unwrap-waiter.result.now ≡ s = same_Some c.unwrap-waiter.result.now s (ap option_copied_mut (sym c.unwrap-waiter.ensures) ∙ c.get_mut.ensures.value ∙ was) in
    let ticket = c.keep.ensures.ticket ∙ ap (λ (x : Waiter). x.ticket) same in
    ap (λ (l : List W). record { all = l; next = a.next }) (order_changed a.next a.next a.all.entries vs.entries c.self.invariant.timed h.4 c.args.key s c.keep.new.self was up.1 ticket up.2 (λ w. w) (ap (λ (x : Waiter). (c.args.key, x)) (is ∙ same)) at at_s ∙ changed_same a.next a.all.entries at)) c.keep.ensures.same)
