use Rattle.broker_state.proofs.Keys.{same_names}
use Rattle.broker_tables.proofs.shared_lines.SharedLines.take_for.Goals as goal

pub take-message-requires : goal.take-message-requires
take-message-requires c = same_names
