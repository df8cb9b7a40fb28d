use Rattle.line_core.proofs.Inserted.{inserted_first}
use Rattle.line_core.proofs.line.what_was_taken_goes_back.Goals as goal

pub returns : goal.returns
returns c = inserted_first
