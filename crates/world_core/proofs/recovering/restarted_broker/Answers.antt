use Rattle.std.proofs.Common.{◌⊎◌, ℕ, List, subst}
use Rattle.recover_core.specs.Stores.{opened_by}
use Rattle.recover_core.specs.Told.{IsTooLarge, IsTooLong}
use Rattle.world_core.proofs.Recovered.{opened_state}
use Rattle.world_core.proofs.recovering.restarted_broker.Goals as goal

pub returns-in-Ok-clause-state : goal.returns-in-Ok-clause-state
returns-in-Ok-clause-state c =
    opened_state c.broker_of.result (opened_by c.in-Ok.store) c.args.content.now c.in_ok-disk.disk.content c.broker_of.ensures c.in_ok-disk.ensures (c.in-Ok.ensures.opens.state tt)

pub returns-then-is_too_much-clause-none : goal.returns-then-is_too_much-clause-none
returns-then-is_too_much-clause-none c none =
    subst (λ (l : List ℕ). IsTooLarge l ⊎ IsTooLong l) c.in_ok-disk.ensures
    (c.is_too_much.ensures c.if-is_too_much.true c.in_ok-disk.disk.content (c.in-Err.ensures.hands_back.refused tt))
