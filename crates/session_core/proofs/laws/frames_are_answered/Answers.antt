use Rattle.std.proofs.Common.{refl}
use Rattle.session_core.proofs.laws.frames_are_answered.Goals as goal

pub returns-clause-opens : goal.returns-clause-opens
returns-clause-opens c = refl

pub returns-clause-wrong_version : goal.returns-clause-wrong_version
returns-clause-wrong_version c = refl

pub returns-clause-early : goal.returns-clause-early
returns-clause-early c = refl

pub returns-clause-nowhere : goal.returns-clause-nowhere
returns-clause-nowhere c = refl

pub returns-clause-sends : goal.returns-clause-sends
returns-clause-sends c = refl

pub returns-clause-leaves : goal.returns-clause-leaves
returns-clause-leaves c = refl

pub returns-clause-ended : goal.returns-clause-ended
returns-clause-ended c = refl
