use Rattle.std.proofs.Common.{◌≡◌, suc, arith, Some, None}
use Rattle.waiting_order.specs.LastSlots.{last_of, over}
use Rattle.waiting_order.proofs.LastSlots.{lowered}
use Rattle.waiting_order.proofs.waiters.LastSlots.lower.Goals as goal

pub returns-in-Some : goal.returns-in-Some
returns-in-Some c =
    let was : over (last_of c.args.key.session c.args.self.now) ≡ suc c.args.key.slot = omega (arith, c.if-reach-from.false, c.reach.ensures.reach, c.from.ensures) in
    lowered c.args.self.now c.replace.new.self c.args.all.now.entries c.args.key (Some c.in-Some.slot) c.requires was c.in-Some.ensures c.replace.ensures

pub returns-in-None : goal.returns-in-None
returns-in-None c =
    let was : over (last_of c.args.key.session c.args.self.now) ≡ suc c.args.key.slot = omega (arith, c.if-reach-from.false, c.reach.ensures.reach, c.from.ensures) in
    lowered c.args.self.now c.forget.new.self c.args.all.now.entries c.args.key None c.requires was c.in-None.ensures c.forget.ensures
