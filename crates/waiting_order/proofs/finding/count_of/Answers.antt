use Rattle.std.proofs.Common.{◌≡◌, ◌∙◌, ℕ, ap, arith}
use Rattle.waiting_order.proofs.Seeking.{total, total_more, total_under}
use Rattle.waiting_order.proofs.finding.count_of.Goals as goal

pub loop-slot-preserved : goal.loop-slot-preserved
loop-slot-preserved c = record {
  counted = omega (arith, c.loop-slot.invariant.counted, c.count_at-count.ensures.count, total_more c.args.session c.loop-slot.slot c.args.waiters.now.all);
  few = omega (arith, c.loop-slot.invariant.few, c.count_at-count.ensures.few);
}

pub returns : goal.returns
returns c =
    let end : c.loop-slot.slot ≡ c.reach-reach.result = omega arith in
    c.loop-slot.invariant.counted ∙ ap (λ (n : ℕ). total c.args.session n c.args.waiters.now.all) end ∙ total_under c.args.session c.reach-reach.result c.args.waiters.now.all c.requires c.reach-reach.ensures.reach.under
