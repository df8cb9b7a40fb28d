use Rattle.std.proofs.Common.{rules}
use Rattle.session_core.proofs.session.Session.lost.Goals as goal

pub returns-clause-act : goal.returns-clause-act
returns-clause-act c = search rules

pub returns-clause-phase : goal.returns-clause-phase
returns-clause-phase c = search rules
