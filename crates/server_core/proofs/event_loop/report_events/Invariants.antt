use Rattle.std.proofs.Common.{◌≡◌, Bor, vec_len}
use Rattle.std.specs.List.{All}
use Rattle.atomic_table.specs.Seated.{TableId}
use Rattle.mio.specs.Events.{items}
use Rattle.mio.specs.declared.event.event.Event.{Event}
use Rattle.server_core.specs.Reporting.{IsReported}
use Rattle.server_core.specs.Serving.{AreServed}
use Rattle.server_core.proofs.Reporting.{events_of}
use Rattle.server_core.proofs.event_loop.report_events.Given as goal

abbrev pub invariant-loop-event : goal.invariant-loop-event
invariant-loop-event g l = record {
  whole : events_of l.yielded l.event-iterator.rest.now ≡ items l.events;
  reported : All (λ (event : Bor Event). IsReported l.services.items event.now) l.yielded;
  ring : (ring : TableId) → AreServed ring l.fn.services.items → AreServed ring l.services.items;
  count : vec_len l.services ≡ vec_len l.fn.services;
}
