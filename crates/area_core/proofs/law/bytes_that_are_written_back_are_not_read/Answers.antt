use Rattle.area_core.proofs.Journals.{reads_torn}
use Rattle.area_core.proofs.law.bytes_that_are_written_back_are_not_read.Goals as goal

pub returns : goal.returns
returns c = reads_torn
