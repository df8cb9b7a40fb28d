use Rattle.broker_state.proofs.EndsInTurn.{restarted_in_turn}
use Rattle.broker_state.proofs.laws.restarts_end_each_session_in_turn.Goals as goal

pub returns : goal.returns
returns c = restarted_in_turn
