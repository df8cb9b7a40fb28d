use Rattle.std.proofs.Common.{rules}
use Rattle.recover_core.proofs.store.Store.fuse.Goals as goal

pub returns-clause-calls : goal.returns-clause-calls
returns-clause-calls g c = search rules
