use Rattle.std.proofs.Common.{◌≡◌, ◌==◌, ℕ, cond, count_by, take}
use Rattle.std.specs.BTreeSet.{contains}
use Rattle.std.specs.List.{sum_by}
use Rattle.std.specs.Ordering.{nat_cmp}
use Rattle.broker_state.proofs.part_checks.are_once.Given as goal

abbrev pub invariant-loop-sub : goal.invariant-loop-sub
invariant-loop-sub l = (delivery : ℕ) → cond (contains nat_cmp l.seen delivery) 1 0
    ≡ sum_by (λ sub. count_by (λ d. d.0 == delivery) sub.unacknowledged) (take l.sub-index l.subscriptions)
