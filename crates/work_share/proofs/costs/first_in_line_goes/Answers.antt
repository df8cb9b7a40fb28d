use Rattle.std.proofs.Common.{inr, arith}
use Rattle.work_share.proofs.Shares.{all}
use Rattle.work_share.proofs.costs.first_in_line_goes.Goals as goal

pub returns-clause-dear : goal.returns-clause-dear
returns-clause-dear c grants cost own keeps are dear most = inr (dear, omega (arith, all grants keeps are, most))
