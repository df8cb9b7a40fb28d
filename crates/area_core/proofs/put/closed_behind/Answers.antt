use Rattle.std.proofs.Common.{rules}
use Rattle.area_core.proofs.put.closed_behind.Goals as goal

pub returns : goal.returns
returns c = search rules
