use Rattle.broker_state.proofs.Deliveries.{settled_ends}
use Rattle.broker_state.proofs.laws.handing_out_ends.Goals as goal

pub returns : goal.returns
returns c = λ s order. settled_ends s (record { names = order.names; queues = order.queues })
