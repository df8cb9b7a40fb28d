use Rattle.line_core.proofs.Inserted.{inserted_twice}
use Rattle.line_core.proofs.line.order_of_return_does_not_matter.Goals as goal

pub returns : goal.returns
returns c = inserted_twice
