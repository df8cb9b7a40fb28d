use Rattle.std.proofs.Common.{rules}
use Rattle.broker_tables.proofs.messages.find_room.Goals as goal

pub returns-then-copies-held : goal.returns-then-copies-held
returns-then-copies-held c = search rules

pub overflow_mul-result : goal.overflow_mul-result
overflow_mul-result c = search rules
