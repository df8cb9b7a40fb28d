use Rattle.std.proofs.Common.{rules}
use Rattle.tx_core.proofs.open_tx.place_of.Goals as goal

pub returns : goal.returns
returns c = search rules
