use Rattle.work_share.proofs.Waiting.{keeps, stands}
use Rattle.work_share.proofs.costs.whoever_stands_in_line_waits.Goals as goal

pub returns-clause-stands : goal.returns-clause-stands
returns-clause-stands c = stands

pub returns-clause-keeps : goal.returns-clause-keeps
returns-clause-keeps c = keeps
