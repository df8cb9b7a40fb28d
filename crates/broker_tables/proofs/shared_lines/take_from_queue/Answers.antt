use Rattle.broker_state.proofs.Keys.{same_texts}
use Rattle.broker_tables.proofs.shared_lines.take_from_queue.Goals as goal

pub take-requires : goal.take-requires
take-requires c = same_texts

pub returns-clause-taken : goal.returns-clause-taken
returns-clause-taken c = c.take.ensures.taken

pub returns-clause-rest : goal.returns-clause-rest
returns-clause-rest c = c.take.ensures.rest

pub returns-clause-weight : goal.returns-clause-weight
returns-clause-weight c = c.take.ensures.weight
