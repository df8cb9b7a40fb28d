use Rattle.std.proofs.Common.{◌∙◌, Bor, List, rules, subst}
use Rattle.std.specs.List.{All, slice_index_or}
use Rattle.std.proofs.lemmas.List.Elements.{All-map, All-push}
use Rattle.mio.specs.Events.{items}
use Rattle.mio.specs.declared.event.event.Event.{Event}
use Rattle.server_core.specs.Reporting.{IsReported}
use Rattle.server_core.proofs.Reporting.{events_end, events_push}
use Rattle.server_core.proofs.event_loop.report_events.Goals as goal

pub loop-event-init : goal.loop-event-init
loop-event-init g c = record {
  whole = search rules;
  reported = search rules;
  ring = λ ring before. before;
  count = search rules;
}

pub loop-event-preserved : goal.loop-event-preserved
loop-event-preserved g c = record {
  whole = events_push c.loop-event.yielded c.in-Some.event c.loop-event.event-iterator.rest.now c.next.new.self.rest.now (search rules) ∙ c.loop-event.invariant.whole;
  reported =
      All-push (λ (event : Bor Event). IsReported c.report_event.new.services.items event.now) c.loop-event.yielded c.in-Some.event
      (λ k d small. c.report_event.ensures.others (slice_index_or c.loop-event.yielded k d).now (c.loop-event.invariant.reported k d small)) c.report_event.ensures.reported;
  ring = λ ring before. c.report_event.ensures.ring ring (c.loop-event.invariant.ring ring before);
  count = search rules;
}

pub returns-clause-reported : goal.returns-clause-reported
returns-clause-reported g c =
    subst (λ (events : List Event). All (λ (event : Event). IsReported c.loop-event.services.items event) events)
    (events_end c.loop-event.yielded c.loop-event.event-iterator.rest.now (items c.args.events.now) c.loop-event.invariant.whole (search rules))
    (All-map (λ (event : Event). IsReported c.loop-event.services.items event) (λ (event : Bor Event). event.now) c.loop-event.yielded c.loop-event.invariant.reported)
