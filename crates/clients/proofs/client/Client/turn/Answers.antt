use Rattle.std.proofs.Common.{◌∙◌, arith, sym}
use Rattle.clients.proofs.TurnAnswers.{appended_still, awaits, heard_still, still_leaves}
use Rattle.clients.proofs.ClientProgress.{goes_quietly, goes_then}
use Rattle.clients.proofs.TurnReports.{room_seen, seen_later, sends_none, sends_then}
use Rattle.clients.proofs.client.Client.turn.Goals as goal

pub returns-clause-goes : goal.returns-clause-goes
returns-clause-goes g c =
    goes_then g.L.Outgoing.sent g.L.Outgoing.received _ c.read-heard.new.self _ _ c.args.seat.now _ _ c.read-heard.new.link _
    (goes_quietly g.L.Outgoing.sent g.L.Outgoing.received _ _ _ _ _ c.read-heard.ensures.unserved c.read-heard.ensures.lives)
    (goes_then g.L.Outgoing.sent g.L.Outgoing.received _ c.execute-appended.new.self _ _ c.execute-appended.new.seat _ _ c.execute-appended.new.link _ c.execute-appended.ensures.goes
    (goes_then g.L.Outgoing.sent g.L.Outgoing.received _ c.pass_on-passed.new.self _ _ c.pass_on-passed.new.seat _ _ c.pass_on-passed.new.link _ c.pass_on-passed.ensures.goes
    (goes_quietly g.L.Outgoing.sent g.L.Outgoing.received _ _ _ _ _ c.finish-is_short.ensures.unserved c.finish-is_short.ensures.lives)))

pub returns-clause-answers : goal.returns-clause-answers
returns-clause-answers g c = record {
  appended = appended_still c.execute-appended.result.0 c.args.seat.now c.execute-appended.new.seat c.pass_on-passed.new.seat c.execute-appended.ensures.grows c.pass_on-passed.ensures.own;
  heard = heard_still g.L.Outgoing.received c.read-heard.result.0 c.args.link.now c.read-heard.new.link c.finish-is_short.new.link c.read-heard.ensures.heard
      (c.finish-is_short.ensures.unread ∙ c.pass_on-passed.ensures.unread ∙ c.execute-appended.ensures.unread);
  next = awaits c.next.result c.execute-appended.result.1 c.finish-is_short.new.self c.next.ensures.awaits
      (still_leaves c.execute-appended.result.1 c.execute-appended.new.self.waiting c.finish-is_short.new.self.waiting
      (c.finish-is_short.ensures.unserved.waiting ∙ c.pass_on-passed.ensures.waiting) c.execute-appended.ensures.leaves);
}

pub returns-clause-reports : goal.returns-clause-reports
returns-clause-reports g c = record {
  heard = c.read-heard.ensures.may;
  write = λ write. sym c.waits.ensures ∙ c.next.ensures.write write;
  room = λ mark room. room_seen mark c.next.result c.execute-appended.result.1 c.finish-is_short.new.self c.pass_on-passed.new.seat room c.next.ensures.awaits
      (seen_later c.execute-appended.result.1 c.execute-appended.new.seat c.pass_on-passed.new.seat c.pass_on-passed.ensures.no_less c.execute-appended.ensures.seen);
  close = c.next.ensures.close;
  few = sends_then g.L.Outgoing.sent 0 40 40 _ c.read-heard.new.link _ (omega arith) (sends_none g.L.Outgoing.sent 0 _ _ c.read-heard.ensures.unserved.sent)
      (sends_then g.L.Outgoing.sent 8 32 40 _ c.execute-appended.new.link _ (omega arith) c.execute-appended.ensures.few
      (sends_then g.L.Outgoing.sent 32 0 32 _ c.pass_on-passed.new.link _ (omega arith) c.pass_on-passed.ensures.few (sends_none g.L.Outgoing.sent 0 _ _ c.finish-is_short.ensures.unserved.sent)));
}
