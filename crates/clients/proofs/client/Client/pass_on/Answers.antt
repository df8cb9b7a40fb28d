use Rattle.std.proofs.Common.{◌∙◌, ap, arith, refl, rules}
use Rattle.claim_core.specs.Seats.{SessionSeatValue}
use Rattle.clients.proofs.ClientProgress.{goes_none, goes_reading, goes_then}
use Rattle.clients.proofs.TurnReports.{sends_none, sends_then}
use Rattle.clients.proofs.client.Client.pass_on.Goals as goal

pub loop-relay-init : goal.loop-relay-init
loop-relay-init g c = record { goes = goes_none g.L.Outgoing.sent g.L.Outgoing.received _ _ _; waiting = refl; own = refl; no_less = omega arith; few = sends_none g.L.Outgoing.sent _ _ _ refl; fits = sends_none g.L.Outgoing.sent _ _ _ refl; unread = refl }

pub returns-in-Ok-None-clause-goes : goal.returns-in-Ok-None-clause-goes
returns-in-Ok-None-clause-goes g c =
    goes_then g.L.Outgoing.sent g.L.Outgoing.received _ c.loop-relay.self _ _ c.loop-relay.seat _ _ c.loop-relay.link _ c.loop-relay.invariant.goes
    (goes_reading g.L.Outgoing.sent g.L.Outgoing.received _ _ _ _ _ _ c.pass_one.ensures.ends c.pass_one.ensures.reads c.pass_one.ensures.served c.pass_one.ensures.lives c.pass_one.ensures.concludes)

pub returns-in-Ok-None-clause-own : goal.returns-in-Ok-None-clause-own
returns-in-Ok-None-clause-own g c = ap (λ (s : SessionSeatValue). s.own) c.pass_one.ensures.reads.seen ∙ c.loop-relay.invariant.own

pub returns-in-Err-clause-goes : goal.returns-in-Err-clause-goes
returns-in-Err-clause-goes g c =
    goes_then g.L.Outgoing.sent g.L.Outgoing.received _ c.loop-relay.self _ _ c.loop-relay.seat _ _ c.loop-relay.link _ c.loop-relay.invariant.goes
    (goes_reading g.L.Outgoing.sent g.L.Outgoing.received _ _ _ _ _ _ c.pass_one.ensures.ends c.pass_one.ensures.reads c.pass_one.ensures.served c.pass_one.ensures.lives c.pass_one.ensures.concludes)

pub returns-in-Err-clause-own : goal.returns-in-Err-clause-own
returns-in-Err-clause-own g c = ap (λ (s : SessionSeatValue). s.own) c.pass_one.ensures.reads.seen ∙ c.loop-relay.invariant.own

pub loop-relay-preserved : goal.loop-relay-preserved
loop-relay-preserved g c = record {
  goes = goes_then g.L.Outgoing.sent g.L.Outgoing.received _ c.loop-relay.self _ _ c.loop-relay.seat _ _ c.loop-relay.link _ c.loop-relay.invariant.goes
      (goes_reading g.L.Outgoing.sent g.L.Outgoing.received _ _ _ _ _ _ c.pass_one.ensures.ends c.pass_one.ensures.reads c.pass_one.ensures.served c.pass_one.ensures.lives c.pass_one.ensures.concludes);
  waiting = c.pass_one.ensures.waiting ∙ c.loop-relay.invariant.waiting;
  own = ap (λ (s : SessionSeatValue). s.own) c.pass_one.ensures.reads.seen ∙ c.loop-relay.invariant.own;
  no_less = omega (arith, c.loop-relay.invariant.no_less, c.pass_one.ensures.reads.no_less);
  few = sends_then g.L.Outgoing.sent c.loop-relay._relay 1 _ _ c.loop-relay.link _ (omega arith) c.loop-relay.invariant.few c.pass_one.ensures.few;
  fits = sends_then g.L.Outgoing.sent c.loop-relay._relay 1 32 _ c.loop-relay.link _ (search rules) c.loop-relay.invariant.few c.pass_one.ensures.few;
  unread = c.pass_one.ensures.unread ∙ c.loop-relay.invariant.unread;
}

pub returns-in-Ok-None-clause-few : goal.returns-in-Ok-None-clause-few
returns-in-Ok-None-clause-few g c = sends_then g.L.Outgoing.sent c.loop-relay._relay 1 32 _ c.loop-relay.link _ (search rules) c.loop-relay.invariant.few c.pass_one.ensures.few

pub returns-in-Ok-None-clause-no_less : goal.returns-in-Ok-None-clause-no_less
returns-in-Ok-None-clause-no_less g c = omega (arith, c.loop-relay.invariant.no_less, c.pass_one.ensures.reads.no_less)

pub returns-in-Err-clause-few : goal.returns-in-Err-clause-few
returns-in-Err-clause-few g c = sends_then g.L.Outgoing.sent c.loop-relay._relay 1 32 _ c.loop-relay.link _ (search rules) c.loop-relay.invariant.few c.pass_one.ensures.few

pub returns-in-Err-clause-no_less : goal.returns-in-Err-clause-no_less
returns-in-Err-clause-no_less g c = omega (arith, c.loop-relay.invariant.no_less, c.pass_one.ensures.reads.no_less)
