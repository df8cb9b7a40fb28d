use Rattle.std.proofs.Common.{rules}
use Rattle.session_core.proofs.session.execute.Goals as goal

pub returns-in_ok-fault-in-Begin-clause-acts : goal.returns-in_ok-fault-in-Begin-clause-acts
returns-in_ok-fault-in-Begin-clause-acts c = search rules
