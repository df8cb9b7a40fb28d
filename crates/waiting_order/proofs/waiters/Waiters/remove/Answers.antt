use Rattle.std.proofs.Common.{◌∙◌, List, ap, sym}
use Rattle.std.proofs.lemmas.Option.{same_Some}
use Rattle.waiting_order.proofs.LastSlots.{lasts_less}
use Rattle.waiting_order.proofs.Timed.{W, at_its_key, ordered, order_without, there_now, timed_without}
use Rattle.waiting_order.proofs.waiters.Waiters.remove.Goals as goal

pub unwrap-waiter-requires : goal.unwrap-waiter-requires
unwrap-waiter-requires c =
    let a = c.self.inside in
    let r = rw (← c.self.view_is) at c.requires in
    there_now c.swap_remove.result r.1 (c.swap_remove.ensures.value ∙ at_its_key a.next a.all.entries c.self.invariant.timed r.0 (c.args.key, r.1) r.2)

pub lower-requires : goal.lower-requires
lower-requires c =
    let a = c.self.inside in
    let up = c.swap_remove.ensures.updates in
    lasts_less a.lasts a.all.entries c.swap_remove.new.self.entries c.args.key up.2 up.1 c.self.invariant.lasts

pub invariant_of-self : goal.invariant_of-self
invariant_of-self c =
    let a = c.self.inside in
    let up = c.swap_remove.ensures.updates in
    record {
      timed = timed_without a.next a.next a.all.entries c.swap_remove.new.self.entries c.self.invariant.timed c.swap_remove.ensures.unique c.args.key up.1 up.2;
      lasts = c.lower.ensures;
    }

pub returns-clause-removed : goal.returns-clause-removed
returns-clause-removed c =
    let a = c.self.inside in
    let up = c.swap_remove.ensures.updates in
    let vs = c.swap_remove.new.self.entries in
    rw (← c.self.view_is) (λ at s is.
    let was = at_its_key a.next a.all.entries c.self.invariant.timed at (c.args.key, s) is in (
      same_Some c.unwrap-waiter.result s (sym c.unwrap-waiter.ensures ∙ c.swap_remove.ensures.value ∙ was),
      ap (λ (l : List W). record { all = l; next = a.next }) (order_without a.next a.next a.all.entries vs c.self.invariant.timed c.swap_remove.ensures.unique c.args.key up.1 up.2 s was at is),
    ))

pub returns-clause-order : goal.returns-clause-order
returns-clause-order c =
    let a = c.self.inside in
    rw (← c.self.view_is) (ordered a.next a.all.entries c.self.invariant.timed)
