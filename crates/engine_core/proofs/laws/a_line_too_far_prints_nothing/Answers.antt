use Rattle.engine_core.proofs.TooFar.{none_too_far}
use Rattle.engine_core.proofs.laws.a_line_too_far_prints_nothing.Goals as goal

pub returns : goal.returns
returns c = none_too_far
