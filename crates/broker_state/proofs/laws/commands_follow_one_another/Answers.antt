use Rattle.broker_state.proofs.CommandLists.{state_after-append, outs_of-append}
use Rattle.broker_state.proofs.laws.commands_follow_one_another.Goals as goal

pub returns : goal.returns
returns c = record { state = state_after-append; outputs = outs_of-append }
