use Rattle.std.proofs.Common.{◌≡◌, ◌==◌, ◌∙◌, List, None, Some, ap, drop, length, sym, if◌then◌else◌}
use Rattle.std.specs.Option.{option_copied_mut}
use Rattle.std.proofs.lemmas.Option.{same_Some}
use Rattle.line_core.specs.Lines.{first_of}
use Rattle.waiting_order.specs.Keeping.{taken_from}
use Rattle.waiting_order.specs.declared.waiters.Waiter.{Waiter}
use Rattle.waiting_order.proofs.LastSlots.{lasts_changed}
use Rattle.waiting_order.proofs.Timed.{W, at_its_key, at_key, order_changed, there_mut, there_now, timed_changed}
use Rattle.waiting_order.proofs.waiters.Waiters.take.Goals as goal

pub unwrap-waiter-requires : goal.unwrap-waiter-requires
unwrap-waiter-requires c =
    let a = c.self.inside in
    let r = rw (← c.self.view_is) at c.requires in
    there_mut c.get_mut.result r.1 (c.get_mut.ensures.value ∙ at_its_key a.next a.all.entries c.self.invariant.timed r.0 (c.args.key, r.1) r.2)

pub invariant_of-self : goal.invariant_of-self
invariant_of-self c =
    let a = c.self.inside in
    let r = rw (← c.self.view_is) at c.requires in
    let there = at_its_key a.next a.all.entries c.self.invariant.timed r.0 (c.args.key, r.1) r.2 in
    let now : c.unwrap-waiter.result.now ≡ r.1 = same_Some c.unwrap-waiter.result.now r.1 (ap option_copied_mut (sym c.unwrap-waiter.ensures) ∙ c.get_mut.ensures.value ∙ there) in
    let vs = c.get_mut.follows.lender c.take.new.self in
    let h = c.get_mut.follows.holds c.take.new.self in
    let up = h.3 (there_now (at_key c.args.key a.all.entries) r.1 there) in
    let ticket = c.take.ensures.ticket ∙ ap (λ (x : Waiter). x.ticket) now in
    record {
      timed = timed_changed a.next a.next a.all.entries vs.entries c.self.invariant.timed h.4 c.args.key r.1 c.take.new.self there up.1 ticket up.2;
      lasts = lasts_changed a.lasts a.all.entries vs.entries c.args.key up.2 r.1 c.take.new.self there up.1 c.self.invariant.lasts;
    }

pub returns : goal.returns
returns c =
    let a = c.self.inside in
    let r = rw (← c.self.view_is) at c.requires in
    let there = at_its_key a.next a.all.entries c.self.invariant.timed r.0 (c.args.key, r.1) r.2 in
    let now : c.unwrap-waiter.result.now ≡ r.1 = same_Some c.unwrap-waiter.result.now r.1 (ap option_copied_mut (sym c.unwrap-waiter.ensures) ∙ c.get_mut.ensures.value ∙ there) in
    let vs = c.get_mut.follows.lender c.take.new.self in
    let h = c.get_mut.follows.holds c.take.new.self in
    let up = h.3 (there_now (at_key c.args.key a.all.entries) r.1 there) in
    let ticket = c.take.ensures.ticket ∙ ap (λ (x : Waiter). x.ticket) now in
    rw (← c.self.view_is) (λ at s at_s.
    let was = at_its_key a.next a.all.entries c.self.invariant.timed at (c.args.key, s) at_s in
    let same : c.unwrap-waiter.result.now ≡ s = same_Some c.unwrap-waiter.result.now s (ap option_copied_mut (sym c.unwrap-waiter.ensures) ∙ c.get_mut.ensures.value ∙ was) in
    let ticket = c.take.ensures.ticket ∙ ap (λ (x : Waiter). x.ticket) same in
    (c.take.ensures.taken ∙ ap (λ (x : Waiter). first_of x.sub.line) same, c.take.ensures.caught_up ∙ ap (λ (x : Waiter). if length x.sub.line == 1 then Some x.group else None) same, ap (λ (l : List W). record { all = l; next = a.next }) (order_changed a.next a.next a.all.entries vs.entries c.self.invariant.timed h.4 c.args.key s c.take.new.self was up.1 ticket up.2 (taken_from) (ap (λ (x : Waiter). (c.args.key, x)) (c.take.ensures.rest ∙ ap (λ (x : Waiter). record x { sub = record x.sub { line = drop 1 x.sub.line } }) same)) at at_s)))
