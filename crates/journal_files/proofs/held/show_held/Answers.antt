use Rattle.journal_files.proofs.Gathered.{shows_held}
use Rattle.journal_files.proofs.held.show_held.Goals as goal

pub returns-in-Ok-clause-shows : goal.returns-in-Ok-clause-shows
returns-in-Ok-clause-shows g c = shows_held c.show_broker.result c.in-Ok.broker.state _ _ c.show_broker.ensures.shown
