use Rattle.journal_files.proofs.Gathered.{on_ok}
use Rattle.journal_files.proofs.held.show_held_object.Goals as goal

pub returns-in-Ok-clause-shows : goal.returns-in-Ok-clause-shows
returns-in-Ok-clause-shows g c = on_ok c.show_broker_object.result _ _ c.show_broker_object.ensures.shown (λ written. (c.in-Ok.broker.state, written))
