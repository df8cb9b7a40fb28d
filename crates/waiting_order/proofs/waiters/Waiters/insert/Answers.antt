use Rattle.std.proofs.Common.{◌≡◌, ◌+◌, ◌∙◌, List, ℕ, is_some, suc, ap, arith, refl, subst, sym}
use Rattle.waiting_order.specs.declared.waiters.Waiter.{Waiter}
use Rattle.waiting_order.specs.LastSlots.{AreLastsBut}
use Rattle.waiting_order.specs.Waiting.{AreTimed, by_ticket}
use Rattle.waiting_order.proofs.LastSlots.{lasts_more}
use Rattle.waiting_order.proofs.Timed.{W, free_key, order_more, timed_more}
use Rattle.waiting_order.proofs.waiters.Waiters.insert.Goals as goal

pub lower-requires : goal.lower-requires
lower-requires c =
    let a = c.self.inside in
    let none = free_key a.next a.all.entries c.self.invariant.timed c.args.key (rw (← c.self.view_is) at c.requires.free) in
    subst (AreLastsBut c.args.key c.raise.new.self) (sym c.in-Err.ensures.same) (c.in_ok-raise.ensures.ok a.all.entries c.self.invariant.lasts (ap is_some none))

pub invariant_of-self-2 : goal.invariant_of-self-2
invariant_of-self-2 c =
    let a = c.self.inside in
    let vs = c.put_at.new.all.entries in
    let t : Waiter = record { ticket = a.next; group = c.args.group; sub = c.args.sub } in
    let more : suc a.next ≡ a.next + 1 = omega arith in
    let none = free_key a.next a.all.entries c.self.invariant.timed c.args.key (rw (← c.self.view_is) at c.requires.free) in
    record {
      timed = subst (λ (n : ℕ). AreTimed n vs) more (timed_more a.next a.next a.all.entries vs c.self.invariant.timed c.put_at.ensures.unique c.args.key t c.in_default.ensures.there refl c.in_default.ensures.others);
      lasts = lasts_more c.raise.new.self a.all.entries vs c.args.key c.in_default.ensures.others t c.in_default.ensures.there c.in_ok-raise.ensures.over (c.in_ok-raise.ensures.ok a.all.entries c.self.invariant.lasts (ap is_some none));
    }

pub returns-clause-ok : goal.returns-clause-ok
returns-clause-ok c =
    let a = c.self.inside in
    let vs = c.put_at.new.all.entries in
    let t : Waiter = record { ticket = a.next; group = c.args.group; sub = c.args.sub } in
    let more : suc a.next ≡ a.next + 1 = omega arith in
    let none = free_key a.next a.all.entries c.self.invariant.timed c.args.key (rw (← c.self.view_is) at c.requires.free) in
    rw (← c.self.view_is) (ap (λ (l : List W). record { all = l; next = a.next + 1 }) (ap (λ (n : ℕ). by_ticket n vs) (sym more) ∙ order_more a.next a.next a.all.entries vs c.self.invariant.timed c.put_at.ensures.unique c.args.key t c.in_default.ensures.there refl c.in_default.ensures.others none))
