use Rattle.std.proofs.Common.{rules}
use Rattle.server_core.proofs.event_loop.EventLoop.into_seats.Goals as goal

pub loop-desk-preserved : goal.loop-desk-preserved
loop-desk-preserved g c = record {
  at = c.take_back.ensures.at _ c.loop-desk.invariant.served c.loop-desk.invariant.at;
  served = c.take_back.ensures.served _ c.loop-desk.invariant.served;
  count = search rules;
  left = search rules;
  room = search rules;
}
