use Rattle.broker_state.proofs.StateNumbers.{empty_numbers, restarted_numbers, step_keeps_numbers}
use Rattle.broker_state.proofs.laws.numbers_stay_under_the_next.Goals as goal

pub returns : goal.returns
returns c = record { first = empty_numbers; step = step_keeps_numbers; restart = restarted_numbers }
