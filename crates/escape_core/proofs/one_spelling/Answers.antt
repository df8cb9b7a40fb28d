use Rattle.escape_core.proofs.Reading.{escaped-same}
use Rattle.escape_core.proofs.one_spelling.Goals as goal

pub returns : goal.returns
returns c = escaped-same
