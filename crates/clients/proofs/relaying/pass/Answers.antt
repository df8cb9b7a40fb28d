use Rattle.std.proofs.Common.{rules}
use Rattle.clients.proofs.relaying.pass.Goals as goal

pub returns-in-Ok-clause-told : goal.returns-in-Ok-clause-told
returns-in-Ok-clause-told g c = (search rules, c.requires.none, c.in-Ok.ensures.told)

pub returns-in-Err-clause-untold : goal.returns-in-Err-clause-untold
returns-in-Err-clause-untold g c = (search rules, c.in-Err.ensures.untold)
