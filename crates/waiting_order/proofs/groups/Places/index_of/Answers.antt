use Rattle.std.proofs.Common.{◌≡◌, Some, arith, slice_get}
use Rattle.std.proofs.lemmas.Grind.{common_steps}
use Rattle.std.proofs.lemmas.Option.{gets}
use Rattle.waiting_order.proofs.Rising.{half_over}
use Rattle.waiting_order.proofs.groups.Places.index_of.Goals as goal

pub returns-in_default-clause-index : goal.returns-in_default-clause-index
returns-in_default-clause-index c =
    let ps = c.self.inside.all.items in
    let p = c.in-Some.first.now in
    let is : slice_get ps 0 ≡ Some p = grind (arith, common_steps, gets) in
    rw (← c.self.view_is) (record {
      within = omega arith;
      under = λ i q there less. absurd (omega (arith, less));
      over = half_over ps c.self.invariant c.args.ticket 0 p is c.if-first-ticket.false;
    })
