use Rattle.engine_core.proofs.Serving.{new_yet, serves}
use Rattle.engine_core.proofs.working.worker.Goals as goal

pub serve-ended-requires-clause-yet : goal.serve-ended-requires-clause-yet
serve-ended-requires-clause-yet g c = new_yet _ _ c.new-client.ensures

pub returns-clause-seat : goal.returns-clause-seat
returns-clause-seat g c = (c.serve-ended.ensures.goes.continues.ring, c.serve-ended.ensures.goes.continues.number)

pub returns-clause-serves : goal.returns-clause-serves
returns-clause-serves g c = serves g.L.Outgoing.sent g.L.Outgoing.received _ _ _ _ _ _ _ _ c.new-client.ensures c.serve-ended.ensures.goes c.serve-ended.ensures.ends
