use Rattle.std.proofs.Common.{rules}
use Rattle.journal_files.proofs.journal_files.write.Goals as goal

pub returns : goal.returns
returns g c = search rules
