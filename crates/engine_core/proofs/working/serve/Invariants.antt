use Rattle.clients.specs.TurnAnswers.{GoesOnYet}
use Rattle.clients.specs.ClientSteps.{GoesOn}
use Rattle.engine_core.proofs.working.serve.Given as goal

abbrev pub invariant-loop-turn : goal.invariant-loop-turn
invariant-loop-turn g l = GoesOn g.L.Outgoing.sent g.L.Outgoing.received l.fn.client l.fn.seat l.fn.link l.client l.seat l.link × GoesOnYet l.client.stage
