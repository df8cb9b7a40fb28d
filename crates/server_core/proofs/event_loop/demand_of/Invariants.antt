use Rattle.std.proofs.Common.{◌≡◌, take}
use Rattle.server_core.specs.Waits.{first_due, is_anybody_ready, is_mark_awaited}
use Rattle.server_core.proofs.event_loop.demand_of.Given as goal

abbrev pub invariant-loop-service : goal.invariant-loop-service
invariant-loop-service g l = record {
  ready : l.demand.is_ready ≡ is_anybody_ready (take l.service-index l.services);
  awaits : l.demand.awaits_mark ≡ is_mark_awaited (take l.service-index l.services);
  due : l.demand.due ≡ first_due (take l.service-index l.services);
}
