use Rattle.std.proofs.Common.{rules}
use Rattle.session_core.proofs.session.commit.Goals as goal

pub returns-in-Ok-clause-acts : goal.returns-in-Ok-clause-acts
returns-in-Ok-clause-acts c = search rules
