use Rattle.broker_state.proofs.Ordered.{empty_in_order, restarted_in_order, step_in_order}
use Rattle.broker_state.proofs.laws.states_stay_in_order.Goals as goal

pub returns : goal.returns
returns c = record { first = empty_in_order; step = step_in_order; restart = restarted_in_order }
