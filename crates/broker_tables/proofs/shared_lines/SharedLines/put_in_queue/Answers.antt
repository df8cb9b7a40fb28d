use Rattle.broker_state.proofs.Keys.{same_texts}
use Rattle.broker_tables.proofs.shared_lines.SharedLines.put_in_queue.Goals as goal

pub put_at-requires : goal.put_at-requires
put_at-requires c = record { same = same_texts }
