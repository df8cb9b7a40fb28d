use Rattle.std.proofs.Common.{◌≡◌}
use Rattle.clients.specs.TurnAnswers.{Appended}
use Rattle.clients.specs.Reports.{SendsFew}
use Rattle.clients.specs.ClientSteps.{GoesOn}
use Rattle.clients.proofs.client.Client.execute.Given as goal

abbrev pub invariant-loop-act : goal.invariant-loop-act
invariant-loop-act g l = record {
  goes : GoesOn g.L.Outgoing.sent g.L.Outgoing.received l.fn.self l.fn.seat l.fn.link l.self l.seat l.link;
  grows : Appended l.appended l.fn.seat l.seat;
  few : SendsFew g.L.Outgoing.sent l._act l.fn.link l.link;
  fits : SendsFew g.L.Outgoing.sent 8 l.fn.link l.link;
  unread : g.L.Outgoing.received l.link ≡ g.L.Outgoing.received l.fn.link;
}
