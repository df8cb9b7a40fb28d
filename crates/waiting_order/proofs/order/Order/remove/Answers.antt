use Rattle.std.proofs.Common.{◌≡◌, ◌∙◌, Some, ap, slice_get, subst, sym}
use Rattle.broker_state.proofs.Weights.{all_removed}
use Rattle.waiting_order.specs.declared.waiters.Waiter.{Waiter}
use Rattle.waiting_order.specs.Directories.{AreFound, IsSlotted}
use Rattle.waiting_order.specs.Waiting.{Waiting}
use Rattle.waiting_order.proofs.order.Order.remove.Goals as goal

pub leave-requires : goal.leave-requires
leave-requires c =
    let a = c.self.inside in
    let r = rw (← c.self.view_is) at c.requires in
    let is = c.remove-ticket.ensures.removed r.0 r.1 r.2 in
    (a.waiters.all, r.0, c.args.key, r.2 ∙ ap (λ (s : Waiter). Some (c.args.key, s)) (sym is.0), c.self.invariant.directory)

pub invariant_of-self : goal.invariant_of-self
invariant_of-self c =
    let a = c.self.inside in
    let r = rw (← c.self.view_is) at c.requires in
    let is = c.remove-ticket.ensures.removed r.0 r.1 r.2 in
    subst (AreFound c.leave.new.self) (sym (ap (λ (x : Waiting). x.all) is.1)) (record {
      slots = all_removed IsSlotted a.waiters.all r.0 c.self.invariant.slots;
      directory = c.leave.ensures a.waiters.all r.0 c.args.key c.remove-ticket.ensures.order.rising (r.2 ∙ ap (λ (s : Waiter). Some (c.args.key, s)) (sym is.0)) c.self.invariant.directory;
    })
