use Rattle.std.proofs.Common.{rules}
use Rattle.snapshot_core.proofs.writing.list_line_under.Goals as goal

pub returns-in-Some-clause-put : goal.returns-in-Some-clause-put
returns-in-Some-clause-put c = search rules

pub returns-in-Some-clause-form : goal.returns-in-Some-clause-form
returns-in-Some-clause-form c = search rules
