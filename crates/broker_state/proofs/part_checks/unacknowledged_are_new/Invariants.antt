use Rattle.std.proofs.Common.{◌≡◌, ◌+◌, Bool, take}
use Rattle.line_core.specs.declared.message.MessageNumber.{MessageNumber}
use Rattle.broker_state.specs.Kept.{unacknowledged_by}
use Rattle.broker_state.specs.declared.subscription.Subscription.{Subscription}
use Rattle.broker_state.specs.Seen.{Tells, count_of, seen_at}
use Rattle.broker_state.proofs.part_checks.unacknowledged_are_new.Given as goal

abbrev pub invariant-loop-sub : goal.invariant-loop-sub
invariant-loop-sub g l = (takes : g.row.K.Denot → Subscription → Bool) → Tells g.K.Ord.cmp (goal.F-post g l.fn.key_of) takes → (key : g.row.K.Denot) (number : MessageNumber)
    → seen_at g.K.Ord.cmp l.seen key number ≡ seen_at g.K.Ord.cmp l.fn.seen key number + count_of number (unacknowledged_by (takes key) (take l.sub-index l.subscriptions))
