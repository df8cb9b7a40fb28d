use Rattle.recover_core.proofs.Formatted.{stands_formatted}
use Rattle.recover_core.proofs.law.a_formatted_journal_stands_for_the_empty_state.Goals as goal

pub returns : goal.returns
returns c = stands_formatted
