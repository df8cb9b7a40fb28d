use Rattle.engine_core.proofs.Going.{some_way}
use Rattle.engine_core.proofs.command_queue.take_until_stop.Goals as goal

pub returns-in-Ok-clause-way : goal.returns-in-Ok-clause-way
returns-in-Ok-clause-way g c = let gone = c.in-Ok.ensures.taken in some_way c.args.flusher.now c.take_all.new.flusher gone.0 c.requires.idle gone.2
