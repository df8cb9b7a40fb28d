use Rattle.broker_state.proofs.BoundNames.{empty_names, restarted_names, step_names}
use Rattle.broker_state.proofs.laws.durable_names_stay_bound.Goals as goal

pub returns : goal.returns
returns c = record { first = empty_names; step = step_names; restart = restarted_names }
