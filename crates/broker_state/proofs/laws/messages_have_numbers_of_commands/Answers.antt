use Rattle.broker_state.proofs.MessageNumbers.{after_numbers, restarted_messages, step_numbers}
use Rattle.broker_state.proofs.laws.messages_have_numbers_of_commands.Goals as goal

pub returns : goal.returns
returns c = record { step = step_numbers; restart = restarted_messages; reached = after_numbers }
