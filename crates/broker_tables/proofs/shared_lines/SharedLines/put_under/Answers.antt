use Rattle.broker_state.proofs.Keys.{same_names}
use Rattle.broker_tables.proofs.shared_lines.SharedLines.put_under.Goals as goal

pub put-requires-clause-same : goal.put-requires-clause-same
put-requires-clause-same c = same_names
