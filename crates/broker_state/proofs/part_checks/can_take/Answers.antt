use Rattle.std.proofs.Common.{rules}
use Rattle.broker_state.proofs.part_checks.can_take.Goals as goal

pub returns-then-has_room : goal.returns-then-has_room
returns-then-has_room c = search rules
