use Rattle.std.proofs.Common.{rules}
use Rattle.engine_core.proofs.journal.append_at.Goals as goal

pub returns-else-got-ticket-clause-own : goal.returns-else-got-ticket-clause-own
returns-else-got-ticket-clause-own c = search rules
