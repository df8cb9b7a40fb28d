use Rattle.std.proofs.Common.{arith, ap, length, min, sum_by, refl, subst, sym, ◌∙◌, ◌++◌, ◌≡◌, List, ℕ, true, false}
use Rattle.area_core.specs.Areas.{commands, records}
use Rattle.broker_core.specs.States.{BrokerValue}
use Rattle.broker_core.specs.Steps.{outs_of, state_after}
use Rattle.command_core.specs.Commands.{CommandValue}
use Rattle.command_core.specs.Entries.{EntryValue}
use Rattle.command_core.specs.Outs.{OutValue}
use Rattle.outbox_core.specs.Boxes.{SenderValue}
use Rattle.outbox_core.specs.Giving.{without}
use Rattle.claim_core.specs.Seats.{FlushSeatValue, when_stopped, with_mark}
use Rattle.flush_core.specs.Backlogs.{most_counted, steps_of}
use Rattle.flush_core.specs.Batches.{between, state_at}
use Rattle.flush_core.specs.FlusherFields.{flushed_of}
use Rattle.flush_core.specs.Flusher.{AreUnder, Flushed}
use Rattle.flush_core.specs.FlusherOutcomes.{Gives, GivesAndFalls}
use Rattle.flush_core.specs.Sessions.{boxes_after, ended_of}
use Rattle.flush_core.proofs.BacklogCounts.{counts_marked, counts_more}
use Rattle.flush_core.proofs.FlusherKeeps.{broker_count, broker_in_order, counts, counts_stored, executed_entries, gives, gives_and_falls, gives_is, held_executed, held_marked}
use Rattle.flush_core.proofs.flusher.Flusher.settle_in_portions.Goals as goal

pub settle_in_portions-requires-clause-ready : goal.settle_in_portions-requires-clause-ready
settle_in_portions-requires-clause-ready g c =
    let it = c.self.inside in
    let whole : it.broken ≡ false = ap (λ (f : Flushed g.row.D.Denot). f.broken) c.self.view_is ∙ c.requires.whole in
    let f = flushed_of it in
    let kept = c.self.invariant.0 in
    let held = c.self.invariant.1 whole in
    let count = broker_count g.D.Disk.honest g.D.Disk.images f whole kept in
    record {
      whole = ap (λ (b : BrokerValue). b.broken) (kept.running whole).broker;
      order = broker_in_order g.D.Disk.honest g.D.Disk.images f whole kept;
      few = counts g.D.Disk.honest g.D.Disk.images f it.done.items whole kept held.done_is held.few;
      marked = omega (arith, count, kept.marked);
      taken = omega (arith, counts_stored g.D.Disk.honest g.D.Disk.images f it.done.items whole kept held.done_is, kept.stored);
      under = subst (λ (n : ℕ). AreUnder n it.outlet.waiting.items) (sym count) (kept.running whole).waiting;
      none = (c.self.invariant.2 whole).none;
    }

pub invariant_of-self : goal.invariant_of-self
invariant_of-self g c =
    let it = c.self.inside in
    let whole : it.broken ≡ false = ap (λ (f : Flushed g.row.D.Denot). f.broken) c.self.view_is ∙ c.requires.whole in
    let f = flushed_of it in
    let held = c.self.invariant.1 whole in
    let did = c.in-Ok.ensures.done in
    let room = c.in-Ok.ensures.room in
    let raised = c.settle_in_portions.ensures.raised in
    let now = c.settle_in_portions.new in
    let counted = counts_stored g.D.Disk.honest g.D.Disk.images f it.done.items whole c.self.invariant.0 held.done_is in
    let state : it.broker.state ≡ state_at it.opening.value.state it.seat it.executed = ap (λ (b : BrokerValue). b.state) (c.self.invariant.0.running whole).broker in
    let outs : outs_of it.broker.state (commands it.done.items) ≡ outs_of (state_at it.opening.value.state it.seat it.executed) (between it.seat it.executed it.stored) = (λ i. outs_of (state i) (held.done_is i)) in (
      gives g.D.Disk.honest g.D.Disk.images f now.seat (now.done.items ++ it.batch.items) now.broker now.self.boxes now.self.ended.items now.self.past.items did.given now.self.waiting.items raised.more now.self.left.items
          (ap (λ (l : List (EntryValue SenderValue)). commands (l ++ it.batch.items)) c.settle_in_portions.ensures.none ∙ held.batch_is)
          (did.broker ∙ ap (λ (l : List CommandValue). record { state = state_after it.broker.state l; broken = false }) held.done_is)
          (did.outs ∙ ap (λ (l : List CommandValue). it.outlet.waiting.items ++ outs_of it.broker.state l) held.done_is)
          raised.seat raised.raised (omega (arith, raised.within, counted)) raised.left_are raised.under whole c.self.invariant.0,
      λ w. held_marked it.seat now.seat now.seat.published it.stored it.stored _ it.batch.items now.done.items it.bytes _ _ _ _ _ _ raised.seat room.behind
          (held_executed it.seat it.stored it.executed _ it.batch.items it.done.items now.done.items it.bytes _ _ _ _ _ _ c.settle_in_portions.ensures.none room.behind held),
      λ w. record { none = room.none; room_is = room.beside },
      c.self.invariant.3,
      λ w. counts_marked it.opening.value.state it.seat now.seat now.seat.published it.counted_from it.stored c.count_more-self-inside.result raised.seat
          (counts_more it.opening.value.state it.seat it.counted_from it.executed it.stored it.counted c.count_more-self-inside.result c.steps_of-steps.result c.bytes_of-bytes.result c.in-Ok.outs c.self.invariant.0.executed
          (c.steps_of-steps.ensures ∙ (ap (λ es. min (sum_by steps_of (commands es)) most_counted) c.deref.ensures.value ∙ ap (λ (l : List CommandValue). min (sum_by steps_of l) most_counted) held.done_is))
          (c.bytes_of-bytes.ensures ∙ (ap (λ es. min (length (records (commands es))) most_counted) c.deref-2.ensures.value ∙ ap (λ (l : List CommandValue). min (length (records l)) most_counted) held.done_is))
          (did.counted ∙ ap (λ (l : List OutValue). min (length l) most_counted) outs)
          c.count_more-self-inside.ensures (c.self.invariant.4 whole)),
    )

pub returns-in-Ok-clause-executed : goal.returns-in-Ok-clause-executed
returns-in-Ok-clause-executed g c =
    let it = c.self.inside in
    let whole : it.broken ≡ false = ap (λ (f : Flushed g.row.D.Denot). f.broken) c.self.view_is ∙ c.requires.whole in
    let f = flushed_of it in
    let kept = c.self.invariant.0 in
    let held = c.self.invariant.1 whole in
    let did = c.in-Ok.ensures.done in
    let raised = c.settle_in_portions.ensures.raised in
    let now = c.settle_in_portions.new in
    let counted = counts_stored g.D.Disk.honest g.D.Disk.images f it.done.items whole kept held.done_is in
    let entries = executed_entries it.seat it.stored it.executed _ it.batch.items it.done.items _ _ _ _ (omega (arith, kept.begun, kept.marked)) kept.executed kept.stored held in
    let new : Flushed g.row.D.Denot = record f { seat = now.seat; executed = it.stored; brought = now.done.items ++ it.batch.items; broker = now.broker; boxes = now.self.boxes; ended = now.self.ended.items; past = now.self.past.items; waiting = now.self.waiting.items; left = now.self.left.items } in
    subst (λ (old : Flushed g.row.D.Denot). Gives old new) c.self.view_is
    (gives_is g.D.Disk.honest g.D.Disk.images f now.seat (now.done.items ++ it.batch.items) now.broker now.self.boxes
    (without (boxes_after it.broker.state.count it.outlet.boxes it.done.items) it.outlet.past.items) now.self.ended.items now.self.past.items did.given now.self.waiting.items now.self.left.items whole kept
    (ap (λ (l : List (EntryValue SenderValue)). l ++ it.batch.items) c.settle_in_portions.ensures.none ∙ sym entries.1)
    (λ i. without (boxes_after (broker_count g.D.Disk.honest g.D.Disk.images f whole kept i) it.outlet.boxes ((sym entries.0) i)) it.outlet.past.items)
    (did.ended_are ∙ ap (λ (l : List CommandValue). it.outlet.ended.items ++ ended_of it.broker.state l) held.done_is)
    c.in-Ok.ensures.past
    (did.broker ∙ ap (λ (l : List CommandValue). record { state = state_after it.broker.state l; broken = false }) held.done_is)
    (did.outs ∙ ap (λ (l : List CommandValue). it.outlet.waiting.items ++ outs_of it.broker.state l) held.done_is)
    did.left_are did.boxed raised.seat raised.raised (omega (arith, raised.within, counted)))

pub returns-in-Ok-clause-untouched : goal.returns-in-Ok-clause-untouched
returns-in-Ok-clause-untouched g c = ap (λ (f : Flushed g.row.D.Denot). f.disk) c.self.view_is

pub returns-in-Err-clause-untouched : goal.returns-in-Err-clause-untouched
returns-in-Err-clause-untouched g c = ap (λ (f : Flushed g.row.D.Denot). f.disk) c.self.view_is

pub returns-in-Err-clause-falls : goal.returns-in-Err-clause-falls
returns-in-Err-clause-falls g c =
    let it = c.self.inside in
    let f = flushed_of it in
    let raised = c.settle_in_portions.ensures.raised in
    let now = c.settle_in_portions.new in
    let new : Flushed g.row.D.Denot = record f { seat = c.stop.new.seat; executed = c.max-self-inside.result; brought = now.done.items ++ it.batch.items; broker = now.broker; boxes = now.self.boxes; ended = now.self.ended.items; past = now.self.past.items; waiting = now.self.waiting.items; left = now.self.left.items; broken = true } in
    let stopped : c.stop.new.seat ≡ when_stopped (with_mark it.seat now.seat.published) = c.stop.ensures ∙ ap (λ (s : FlushSeatValue). when_stopped s) raised.seat in
    subst (λ (old : Flushed g.row.D.Denot). GivesAndFalls old new) c.self.view_is (record {
      was = ap (λ (f : Flushed g.row.D.Denot). f.broken) c.self.view_is ∙ c.requires.whole;
      now = refl;
      seat = stopped ∙ ap (λ (n : ℕ). when_stopped (with_mark it.seat n)) (sym (ap (λ (s : FlushSeatValue). s.published) stopped));
      raised = omega (arith, raised.raised, ap (λ (s : FlushSeatValue). s.published) stopped);
      stored = refl;
      opening = refl;
      left = (raised.more, raised.left_are);
    })

pub invariant_of-self-in-Err : goal.invariant_of-self-in-Err
invariant_of-self-in-Err g c =
    let it = c.self.inside in
    let whole : it.broken ≡ false = ap (λ (f : Flushed g.row.D.Denot). f.broken) c.self.view_is ∙ c.requires.whole in
    let f = flushed_of it in
    let raised = c.settle_in_portions.ensures.raised in
    let now = c.settle_in_portions.new in
    let counted = counts_stored g.D.Disk.honest g.D.Disk.images f it.done.items whole c.self.invariant.0 (c.self.invariant.1 whole).done_is in (
      gives_and_falls g.D.Disk.honest g.D.Disk.images f c.stop.new.seat now.seat.published c.max-self-inside.result (now.done.items ++ it.batch.items) now.broker now.self.boxes now.self.ended.items now.self.past.items now.self.waiting.items raised.more now.self.left.items
          (c.stop.ensures ∙ ap (λ (s : FlushSeatValue). when_stopped s) raised.seat) raised.raised
          (omega (arith, c.max-self-inside.ensures, c.mark.ensures.mark)) (omega (arith, c.max-self-inside.ensures, c.mark.ensures.mark, raised.within, counted, c.self.invariant.0.executed))
          raised.left_are raised.under whole c.self.invariant.0,
      λ w. absurd (cc w),
      λ w. absurd (cc w),
      λ w. absurd (cc w),
      λ w. absurd (cc w),
    )
