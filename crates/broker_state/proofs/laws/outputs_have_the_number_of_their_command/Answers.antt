use Rattle.broker_state.proofs.Ordered.{done_count}
use Rattle.broker_state.proofs.Numbers.{outs_numbered}
use Rattle.broker_state.proofs.laws.outputs_have_the_number_of_their_command.Goals as goal

pub returns : goal.returns
returns c = λ rule s d order. outs_numbered rule s d (done_count rule s d order)
