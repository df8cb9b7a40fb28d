use Rattle.std.proofs.Common.{◌∙◌, arith, refl, rules}
use Rattle.clients.proofs.ClientProgress.{goes_none, goes_then}
use Rattle.clients.proofs.TurnReports.{sends_none, sends_then}
use Rattle.clients.proofs.client.Client.execute.Goals as goal

pub loop-act-init : goal.loop-act-init
loop-act-init g c = record { goes = goes_none g.L.Outgoing.sent g.L.Outgoing.received _ _ _; grows = refl; few = sends_none g.L.Outgoing.sent _ _ _ refl; fits = sends_none g.L.Outgoing.sent _ _ _ refl; unread = refl }

pub returns-then-matches : goal.returns-then-matches
returns-then-matches g c = record {
  goes = goes_then g.L.Outgoing.sent g.L.Outgoing.received _ c.loop-act.self _ _ c.loop-act.seat _ _ c.loop-act.link _ c.loop-act.invariant.goes c.step-step.ensures.goes;
  grows = c.also_appended-appended.ensures _ _ _ c.loop-act.invariant.grows c.step-step.ensures.takes.grows;
  leaves = c.step-step.ensures.takes.leaves;
  seen = c.step-step.ensures.takes.seen;
  few = sends_then g.L.Outgoing.sent c.loop-act._act 1 8 _ c.loop-act.link _ (search rules) c.loop-act.invariant.few c.step-step.ensures.few;
  unread = c.step-step.ensures.unread ∙ c.loop-act.invariant.unread;
}

pub loop-act-preserved : goal.loop-act-preserved
loop-act-preserved g c = record {
  goes = goes_then g.L.Outgoing.sent g.L.Outgoing.received _ c.loop-act.self _ _ c.loop-act.seat _ _ c.loop-act.link _ c.loop-act.invariant.goes c.step-step.ensures.goes;
  grows = c.also_appended-appended.ensures _ _ _ c.loop-act.invariant.grows c.step-step.ensures.takes.grows;
  few = sends_then g.L.Outgoing.sent c.loop-act._act 1 _ _ c.loop-act.link _ (omega arith) c.loop-act.invariant.few c.step-step.ensures.few;
  fits = sends_then g.L.Outgoing.sent c.loop-act._act 1 8 _ c.loop-act.link _ (search rules) c.loop-act.invariant.few c.step-step.ensures.few;
  unread = c.step-step.ensures.unread ∙ c.loop-act.invariant.unread;
}
