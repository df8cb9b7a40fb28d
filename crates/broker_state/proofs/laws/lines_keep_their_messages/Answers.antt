use Rattle.broker_state.proofs.StateLines.{empty_lines, restarted_lines, step_lines}
use Rattle.broker_state.proofs.laws.lines_keep_their_messages.Goals as goal

pub returns : goal.returns
returns c = record { first = empty_lines; step = step_lines; restart = restarted_lines }
