use Rattle.line_core.proofs.Inserted.{length-inserted, sum_by-inserted}
use Rattle.line_core.proofs.line.inserting_adds_one_message.Goals as goal

pub returns : goal.returns
returns c = record { count = length-inserted; sum = λ f m line. sum_by-inserted m f line }
