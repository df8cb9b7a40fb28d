use Rattle.std.proofs.Common.{◌≡◌, ◌+◌, ◌-◌, ◌/◌, Some, arith, slice_get}
use Rattle.std.proofs.lemmas.Grind.{common_steps}
use Rattle.std.proofs.lemmas.Option.{gets}
use Rattle.waiting_order.proofs.Rising.{half_over, half_under}
use Rattle.waiting_order.proofs.groups.Places.search.Goals as goal

pub loop-low-preserved-then-index-ticket : goal.loop-low-preserved-then-index-ticket
loop-low-preserved-then-index-ticket c =
    let ps = c.self.inside.all.items in
    let middle = c.loop-low.low + (c.loop-low.high - c.loop-low.low) / 2 in
    let p = c.index.result.now in
    let is : slice_get ps middle ≡ Some p = grind (arith, common_steps, gets) in
    record {
      order = omega (arith, c.loop-low-test.true);
      within = c.loop-low.invariant.within;
      under = half_under ps c.self.invariant c.args.ticket middle p is c.if-index-ticket.true;
      over = c.loop-low.invariant.over;
    }

pub loop-low-preserved : goal.loop-low-preserved
loop-low-preserved c =
    let ps = c.self.inside.all.items in
    let middle = c.loop-low.low + (c.loop-low.high - c.loop-low.low) / 2 in
    let p = c.index.result.now in
    let is : slice_get ps middle ≡ Some p = grind (arith, common_steps, gets) in
    record {
      order = omega arith;
      within = omega (arith, c.loop-low-test.true, c.loop-low.invariant.within);
      under = c.loop-low.invariant.under;
      over = half_over ps c.self.invariant c.args.ticket middle p is c.if-index-ticket.false;
    }
