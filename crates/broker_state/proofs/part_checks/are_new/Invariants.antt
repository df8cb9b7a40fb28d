use Rattle.std.proofs.Common.{◌≡◌, ◌==◌, ◌+◌, ℕ, cond, count_by, take}
use Rattle.std.specs.BTreeSet.{contains}
use Rattle.std.specs.Ordering.{nat_cmp}
use Rattle.broker_state.proofs.part_checks.are_new.Given as goal

abbrev pub invariant-loop-delivery : goal.invariant-loop-delivery
invariant-loop-delivery l = (delivery : ℕ) → cond (contains nat_cmp l.seen delivery) 1 0
    ≡ cond (contains nat_cmp l.fn.seen delivery) 1 0 + count_by (λ d. d.0 == delivery) (take l.delivery-index l.deliveries)
