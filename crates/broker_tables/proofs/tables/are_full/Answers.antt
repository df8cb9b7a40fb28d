use Rattle.std.proofs.Common.{ap, nat_le}
use Rattle.broker_tables.proofs.tables.are_full.Goals as goal

pub returns : goal.returns
returns c = ap (nat_le 256) c.len.ensures.len
