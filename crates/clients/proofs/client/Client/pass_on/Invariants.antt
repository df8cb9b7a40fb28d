use Rattle.std.proofs.Common.{◌≡◌, ◌≤◌}
use Rattle.clients.specs.Reports.{SendsFew}
use Rattle.clients.specs.ClientSteps.{GoesOn}
use Rattle.clients.proofs.client.Client.pass_on.Given as goal

abbrev pub invariant-loop-relay : goal.invariant-loop-relay
invariant-loop-relay g l = record {
  goes : GoesOn g.L.Outgoing.sent g.L.Outgoing.received l.fn.self l.fn.seat l.fn.link l.self l.seat l.link;
  waiting : l.self.waiting ≡ l.fn.self.waiting;
  own : l.seat.own ≡ l.fn.seat.own;
  no_less : l.fn.seat.seen ≤ l.seat.seen;
  few : SendsFew g.L.Outgoing.sent l._relay l.fn.link l.link;
  fits : SendsFew g.L.Outgoing.sent 32 l.fn.link l.link;
  unread : g.L.Outgoing.received l.link ≡ g.L.Outgoing.received l.fn.link;
}
