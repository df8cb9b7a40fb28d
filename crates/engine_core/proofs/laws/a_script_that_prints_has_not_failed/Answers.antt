use Rattle.engine_core.proofs.Unfailed.{all_calm, none_failed}
use Rattle.engine_core.proofs.laws.a_script_that_prints_has_not_failed.Goals as goal

pub returns-clause-durable : goal.returns-clause-durable
returns-clause-durable c = none_failed

pub returns-clause-calm : goal.returns-clause-calm
returns-clause-calm c = all_calm
