use Rattle.std.proofs.Common.{◌≤◌, List, count_by, subst, sym}
use Rattle.broker_state.specs.declared.subscription.Subscription.{Subscription}
use Rattle.broker_state.specs.Operations.{is_of}
use Rattle.waiting_order.proofs.order.Order.numbered_anew.Goals as goal

pub of-requires : goal.of-requires
of-requires c session =
    subst (λ (l : List Subscription). count_by (is_of session) l ≤ 16) (sym c.in_ok-subs.ensures.subs) (c.have_few.ensures session)
