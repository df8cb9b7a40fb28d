use Rattle.std.proofs.Common.{◌≡◌, ◌+◌, ℕ, Option, arith, subst, sym}
use Rattle.waiting_order.specs.declared.groups.Place.{Place}
use Rattle.waiting_order.proofs.Seeking.{Soonest, soonest_begin, soonest_end, soonest_more}
use Rattle.waiting_order.proofs.finding.first_of.Goals as goal

pub loop-slot-init : goal.loop-slot-init
loop-slot-init c = soonest_begin c.args.waiters.now c.reach-reach.ensures.order c.args.session c.args.from c.args.sought

pub loop-slot-preserved : goal.loop-slot-preserved
loop-slot-preserved c =
    subst (λ (o : Option Place). Soonest c.args.waiters.now.all c.args.session c.args.from c.args.sought (c.loop-slot.slot + 1) o) (sym c.sooner-first.ensures)
    (soonest_more c.args.waiters.now c.reach-reach.ensures.order c.args.session c.args.from c.args.sought c.loop-slot.slot c.loop-slot.first c.seen_at-seen.result c.loop-slot.invariant c.seen_at-seen.ensures.seen)

pub returns : goal.returns
returns c =
    let end : c.loop-slot.slot ≡ c.reach-reach.result = omega arith in
    soonest_end c.args.waiters.now c.reach-reach.ensures.order c.args.session c.args.from c.args.sought c.requires c.reach-reach.result c.reach-reach.ensures.reach.under c.loop-slot.first
    (subst (λ (n : ℕ). Soonest c.args.waiters.now.all c.args.session c.args.from c.args.sought n c.loop-slot.first) end c.loop-slot.invariant)
