use Rattle.work_share.proofs.Shares.{all, count}
use Rattle.work_share.proofs.costs.others_keep_to_shares.Goals as goal

pub returns-clause-all : goal.returns-clause-all
returns-clause-all c = all

pub returns-clause-count : goal.returns-clause-count
returns-clause-count c = count
