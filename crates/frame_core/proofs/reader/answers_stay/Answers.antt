use Rattle.frame_core.proofs.Joins.{fault_stays}
use Rattle.frame_core.proofs.OneAnswer.{reads_on, fails_on}
use Rattle.frame_core.proofs.reader.answers_stay.Goals as goal

pub returns : goal.returns
returns c = record { reads = reads_on; fails = fails_on; fault = fault_stays }
