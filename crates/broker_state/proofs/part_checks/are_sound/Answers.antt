use Rattle.std.proofs.Common.{rules}
use Rattle.broker_state.proofs.part_checks.are_sound.Goals as goal

pub returns-in_ok-has_lines : goal.returns-in_ok-has_lines
returns-in_ok-has_lines c = search rules
