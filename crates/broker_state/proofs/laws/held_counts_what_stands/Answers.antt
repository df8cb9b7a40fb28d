use Rattle.broker_state.specs.States.{bytes}
use Rattle.broker_state.proofs.Standing.{all_stand, count_stands}
use Rattle.broker_state.proofs.laws.held_counts_what_stands.Goals as goal

pub returns : goal.returns
returns c = record { messages = count_stands; bytes = all_stand bytes }
