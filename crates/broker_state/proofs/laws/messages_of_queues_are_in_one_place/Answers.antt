use Rattle.broker_state.proofs.Conserved.{restarted_weight, step_light}
use Rattle.broker_state.proofs.MessageNumbers.{after_once}
use Rattle.broker_state.proofs.Standing.{queue_once}
use Rattle.broker_state.proofs.laws.messages_of_queues_are_in_one_place.Goals as goal

pub returns : goal.returns
returns c = record { once = queue_once; later = step_light; restart = restarted_weight; reached = λ events may number. after_once events number may }
