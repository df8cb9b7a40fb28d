use Rattle.std.proofs.Common.{◌≡◌, ◌-◌, ◌∷◌, ◌∙◌, Option, ℕ, Some, suc, ap, arith, cond, drop, slice_get, sym}
use Rattle.std.specs.BTreeMap.{is_at}
use Rattle.std.specs.Ordering.{nat_cmp}
use Rattle.waiting_order.specs.declared.waiters.Key.{Key}
use Rattle.waiting_order.proofs.Listing.{all_listed, drop_there, key_at, key_more}
use Rattle.waiting_order.proofs.Timed.{W}
use Rattle.waiting_order.proofs.waiters.Waiters.by_ticket.Goals as goal

pub loop-left-preserved : goal.loop-left-preserved
loop-left-preserved c =
    let es = c.self.inside.all.entries in
    let i = c.loop-left.left - 1 in
    let w : W = (c.in-Some.key.now, c.in-Some.waiter.now) in
    let there : slice_get es i ≡ Some w = sym c.in-Some.ensures.entry in
    let more : suc i ≡ c.loop-left.left = omega (arith, c.loop-left-test.true) in
    record {
      has = λ t. c.in_ok-insert.ensures.updates.0 t
          ∙ ap (λ (o : Option Key). cond (is_at (nat_cmp w.1.ticket) t) (Some w.0) o) (c.loop-left.invariant.has t)
          ∙ key_more t w (drop c.loop-left.left es)
          ∙ ap (key_at t) (sym (drop_there es i w there ∙ ap (λ (k : ℕ). w ∷ drop k es) more));
      sorted = c.in_ok-insert.ensures.ordered;
      within = omega (arith, c.loop-left.invariant.within);
    }

pub returns : goal.returns
returns c =
    let a = c.self.inside in
    let none : c.loop-left.left ≡ 0 = omega (arith, c.loop-left-test.false) in
    rw (← c.self.view_is) (all_listed a.next a.all.entries c.self.invariant.timed c.loop-left.keys.entries c.loop-left.invariant.sorted (λ t. c.loop-left.invariant.has t ∙ ap (λ (k : ℕ). key_at t (drop k a.all.entries)) none))
