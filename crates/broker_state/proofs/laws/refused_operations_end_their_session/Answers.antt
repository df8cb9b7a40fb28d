use Rattle.std.proofs.Common.{◌∙◌, ap}
use Rattle.broker_state.specs.Steps.{accepted_or_ended}
use Rattle.broker_state.proofs.Heard.{open_done}
use Rattle.broker_state.proofs.laws.refused_operations_end_their_session.Goals as goal

pub returns : goal.returns
returns c = λ rule s session op fault other is refused. open_done rule s session op other is ∙ ap (accepted_or_ended s session) refused
