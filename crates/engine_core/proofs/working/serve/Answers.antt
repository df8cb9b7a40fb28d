use Rattle.clients.proofs.ClientProgress.{goes_none, goes_then}
use Rattle.engine_core.proofs.Serving.{goes_yet, over_as}
use Rattle.engine_core.proofs.working.serve.Goals as goal

pub loop-turn-init : goal.loop-turn-init
loop-turn-init g c = (goes_none g.L.Outgoing.sent g.L.Outgoing.received _ _ _, c.requires.yet)

pub returns-in-Over-clause-goes : goal.returns-in-Over-clause-goes
returns-in-Over-clause-goes g c = goes_then g.L.Outgoing.sent g.L.Outgoing.received _ c.loop-turn.client _ _ c.loop-turn.seat _ _ c.loop-turn.link _ c.loop-turn.invariant.0 c.turn-turned.ensures.goes

pub returns-in-Over-clause-ends : goal.returns-in-Over-clause-ends
returns-in-Over-clause-ends g c = over_as _ c.in-Over.ended _ _ c.in-Over.is c.of.ensures c.turn-turned.ensures.answers.next

pub loop-turn-preserved : goal.loop-turn-preserved
loop-turn-preserved g c = (
  goes_then g.L.Outgoing.sent g.L.Outgoing.received _ c.loop-turn.client _ _ c.loop-turn.seat _ _ c.loop-turn.link _ c.loop-turn.invariant.0 c.turn-turned.ensures.goes,
  goes_yet _ _ c.in_default.not-Over c.turn-turned.ensures.answers.next,
)
