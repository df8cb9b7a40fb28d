use Rattle.std.proofs.Common.{◌≡◌, ◌+◌, ◌++◌, ◌∷◌, ◌∙◌, [], List, ℕ, suc, ap, arith, refl, remove, subst, sym}
use Rattle.std.specs.Option.{option_copied_mut}
use Rattle.std.proofs.lemmas.Option.{same_Some}
use Rattle.waiting_order.specs.declared.waiters.Waiter.{Waiter}
use Rattle.waiting_order.specs.Waiting.{AreTimed, by_ticket}
use Rattle.waiting_order.proofs.LastSlots.{lasts_changed}
use Rattle.waiting_order.proofs.Timed.{W, at_its_key, at_key, order_moved, there_mut, there_now, timed_more}
use Rattle.waiting_order.proofs.waiters.Waiters.move_last.Goals as goal

pub unwrap-waiter-requires : goal.unwrap-waiter-requires
unwrap-waiter-requires c =
    let a = c.self.inside in
    let r = rw (← c.self.view_is) at c.requires.there in
    there_mut c.get_mut.result r.1 (c.get_mut.ensures.value ∙ at_its_key a.next a.all.entries c.self.invariant.timed r.0 (c.args.key, r.1) r.2)

pub invariant_of-self : goal.invariant_of-self
invariant_of-self c =
    let a = c.self.inside in
    let r = rw (← c.self.view_is) at c.requires.there in
    let there = at_its_key a.next a.all.entries c.self.invariant.timed r.0 (c.args.key, r.1) r.2 in
    let t : Waiter = record c.unwrap-waiter.result.now { ticket = a.next } in
    let vs = c.get_mut.follows.lender t in
    let h = c.get_mut.follows.holds t in
    let up = h.3 (there_now (at_key c.args.key a.all.entries) r.1 there) in
    let more : suc a.next ≡ a.next + 1 = omega arith in
    record {
      timed = subst (λ (n : ℕ). AreTimed n vs.entries) more (timed_more a.next a.next a.all.entries vs.entries c.self.invariant.timed h.4 c.args.key t up.1 refl up.2);
      lasts = lasts_changed a.lasts a.all.entries vs.entries c.args.key up.2 r.1 t there up.1 c.self.invariant.lasts;
    }

pub returns : goal.returns
returns c =
    let a = c.self.inside in
    let r = rw (← c.self.view_is) at c.requires.there in
    let there = at_its_key a.next a.all.entries c.self.invariant.timed r.0 (c.args.key, r.1) r.2 in
    let t : Waiter = record c.unwrap-waiter.result.now { ticket = a.next } in
    let vs = c.get_mut.follows.lender t in
    let h = c.get_mut.follows.holds t in
    let up = h.3 (there_now (at_key c.args.key a.all.entries) r.1 there) in
    let more : suc a.next ≡ a.next + 1 = omega arith in
    rw (← c.self.view_is) (λ at s is.
    let was = at_its_key a.next a.all.entries c.self.invariant.timed at (c.args.key, s) is in
    let same : c.unwrap-waiter.result.now ≡ s = same_Some c.unwrap-waiter.result.now s (ap option_copied_mut (sym c.unwrap-waiter.ensures) ∙ c.get_mut.ensures.value ∙ was) in (
      ap (λ (x : Waiter). (x.group, x.ticket)) same,
      ap (λ (l : List W). record { all = l; next = a.next + 1 })
          (ap (λ (n : ℕ). by_ticket n vs.entries) (sym more)
          ∙ order_moved a.next a.next a.all.entries vs.entries c.self.invariant.timed h.4 c.args.key t up.1 refl up.2 s was at is
          ∙ ap (λ (x : Waiter). remove (by_ticket a.next a.all.entries) at ++ (c.args.key, record x { ticket = a.next }) ∷ []) same),
    ))
