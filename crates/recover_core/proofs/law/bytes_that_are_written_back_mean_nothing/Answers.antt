use Rattle.recover_core.proofs.Slack.{stands_torn}
use Rattle.recover_core.proofs.law.bytes_that_are_written_back_mean_nothing.Goals as goal

pub returns : goal.returns
returns c = stands_torn
