use Rattle.engine_core.proofs.OneText.{one_script, one_text}
use Rattle.engine_core.proofs.laws.a_script_has_one_text.Goals as goal

pub returns-clause-lines : goal.returns-clause-lines
returns-clause-lines c = one_text

pub returns-clause-input : goal.returns-clause-input
returns-clause-input c = one_script
