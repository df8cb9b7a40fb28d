use Rattle.std.proofs.Common.{◌≡◌, ℕ, ap, arith}
use Rattle.waiting_order.specs.Keys.{key_of}
use Rattle.waiting_order.proofs.Seeking.{one_there, total, total_all, total_more}
use Rattle.waiting_order.proofs.finding.free_key.Goals as goal

pub loop-slot-preserved : goal.loop-slot-preserved
loop-slot-preserved c =
    let it = c.in-Some.ensures.some in
    let ws = c.args.waiters.now.all in
    omega (arith, c.loop-slot.invariant, total_more c.args.session c.loop-slot.slot ws, one_there c.args.waiters.now c.get.ensures.order (key_of c.args.session c.loop-slot.slot) it.0 c.in-Some._taken.now it.1)

pub unreachable-requires : goal.unreachable-requires
unreachable-requires c =
    let end : c.loop-slot.slot ≡ 16 = omega arith in
    omega (ap (λ (n : ℕ). total c.args.session n c.args.waiters.now.all) end, end, arith, c.requires.few, c.loop-slot.invariant, total_all c.args.session c.args.waiters.now.all c.requires.slots)
