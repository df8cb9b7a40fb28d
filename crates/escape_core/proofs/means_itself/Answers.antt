use Rattle.escape_core.proofs.Reading.{unescaped-escaped}
use Rattle.escape_core.proofs.means_itself.Goals as goal

pub returns : goal.returns
returns c = unescaped-escaped
