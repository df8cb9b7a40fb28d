use Rattle.std.proofs.Common.{arith, ap, length, length-append, min, sum_by, refl, subst, sym, ◌∙◌, ◌++◌, ◌≡◌, Err, List, Result, false, true}
use Rattle.area_core.specs.Areas.{commands, records}
use Rattle.broker_core.specs.States.{BrokerValue}
use Rattle.broker_core.specs.Steps.{outs_of, state_after}
use Rattle.command_core.specs.Commands.{CommandValue}
use Rattle.command_core.specs.Entries.{EntryValue}
use Rattle.outbox_core.specs.Boxes.{SenderValue}
use Rattle.claim_core.specs.Seats.{FlushSeatValue, when_stopped}
use Rattle.flush_core.specs.declared.faults.FlushFault.{FlushFault}
use Rattle.command_core.specs.Outs.{OutValue}
use Rattle.flush_core.specs.Backlogs.{most_counted, steps_of}
use Rattle.flush_core.specs.Batches.{between, state_at}
use Rattle.flush_core.specs.Faults.{IsMemory}
use Rattle.flush_core.proofs.StoreFaults.{fell_for_memory, needs_memory}
use Rattle.flush_core.specs.FlusherFields.{flushed_of}
use Rattle.flush_core.specs.Flusher.{Flushed}
use Rattle.flush_core.specs.FlusherOutcomes.{executing}
use Rattle.flush_core.specs.Sessions.{boxes_after, ended_of}
use Rattle.flush_core.proofs.BacklogCounts.{counts_more}
use Rattle.flush_core.proofs.FlusherKeeps.{broker_count, counts, fails, held_executed, executed_entries, executes, executing_is}
use Rattle.flush_core.proofs.flusher.Flusher.settle.Goals as goal

pub execute_all-requires-clause-count : goal.execute_all-requires-clause-count
execute_all-requires-clause-count g c =
    let it = c.self.inside in
    let whole : it.broken ≡ false = ap (λ (f : Flushed g.row.D.Denot). f.broken) c.self.view_is ∙ (sym c.is_broken.ensures.value ∙ c.if-is_broken.false) in
    let f = flushed_of it in
    let held = c.self.invariant.1 whole in
    counts g.D.Disk.honest g.D.Disk.images f it.done.items whole c.self.invariant.0 held.done_is held.few

pub invariant_of-self : goal.invariant_of-self
invariant_of-self g c =
    let it = c.self.inside in
    let whole : it.broken ≡ false = ap (λ (f : Flushed g.row.D.Denot). f.broken) c.self.view_is ∙ (sym c.is_broken.ensures.value ∙ c.if-is_broken.false) in
    let f = flushed_of it in
    let held = c.self.invariant.1 whole in
    let did = c.in-Ok.ensures in
    let state : it.broker.state ≡ state_at it.opening.value.state it.seat it.executed = ap (λ (b : BrokerValue). b.state) (c.self.invariant.0.running whole).broker in
    let outs : outs_of it.broker.state (commands it.done.items) ≡ outs_of (state_at it.opening.value.state it.seat it.executed) (between it.seat it.executed it.stored) = (λ i. outs_of (state i) (held.done_is i)) in
    let added = ap (λ (l : List OutValue). length l) did.done.outs ∙ length-append it.outlet.waiting.items (outs_of it.broker.state (commands it.done.items)) in
    let now = c.execute_all.new in (
      executes g.D.Disk.honest g.D.Disk.images f (now.done.items ++ it.batch.items) now.broker now.self.boxes now.self.ended.items now.self.past.items now.self.waiting.items now.self.left.items
          (ap (λ (l : List (EntryValue SenderValue)). commands (l ++ it.batch.items)) did.same.0 ∙ held.batch_is)
          (did.done.broker ∙ ap (λ (l : List CommandValue). record { state = state_after it.broker.state l; broken = false }) held.done_is)
          (did.done.outs ∙ ap (λ (l : List CommandValue). it.outlet.waiting.items ++ outs_of it.broker.state l) held.done_is)
          c.execute_all.ensures.same.2 whole c.self.invariant.0,
      λ w. held_executed it.seat it.stored it.executed _ it.batch.items it.done.items now.done.items it.bytes _ _ _ _ _ _ did.same.0 did.room.behind held,
      λ w. record { none = did.room.none; room_is = did.room.beside },
      c.self.invariant.3,
      λ w. counts_more it.opening.value.state it.seat it.counted_from it.executed it.stored it.counted c.count_more-self-inside.result c.steps_of-steps.result c.bytes_of-bytes.result c.saturating_sub-outs.result c.self.invariant.0.executed
          (c.steps_of-steps.ensures ∙ (ap (λ es. min (sum_by steps_of (commands es)) most_counted) c.deref.ensures.value ∙ ap (λ (l : List CommandValue). min (sum_by steps_of l) most_counted) held.done_is))
          (c.bytes_of-bytes.ensures ∙ (ap (λ es. min (length (records (commands es))) most_counted) c.deref-2.ensures.value ∙ ap (λ (l : List CommandValue). min (length (records l)) most_counted) held.done_is))
          (omega (arith, c.saturating_sub-outs.ensures, c.len.ensures, c.len-waited.ensures, it.outlet.waiting.ok.0, c.execute_all.new.self.waiting.ok.0, added, ap (λ (l : List OutValue). length l) outs))
          c.count_more-self-inside.ensures (c.self.invariant.4 whole),
    )

pub invariant_of-self-in-Err : goal.invariant_of-self-in-Err
invariant_of-self-in-Err g c =
    let it = c.self.inside in
    let f = flushed_of it in
    let now = c.execute_all.new in (
      fails g.D.Disk.honest g.D.Disk.images f c.stop.new.seat (now.done.items ++ it.batch.items) now.broker now.self.boxes now.self.ended.items now.self.past.items now.self.waiting.items now.self.left.items
          c.stop.ensures c.execute_all.ensures.same.2 c.self.invariant.0,
      λ w. absurd (cc w),
      λ w. absurd (cc w),
      λ w. absurd (cc w),
      λ w. absurd (cc w),
    )

pub returns-in-Ok-clause-executed : goal.returns-in-Ok-clause-executed
returns-in-Ok-clause-executed g c =
    let it = c.self.inside in
    let whole : it.broken ≡ false = ap (λ (f : Flushed g.row.D.Denot). f.broken) c.self.view_is ∙ (sym c.is_broken.ensures.value ∙ c.if-is_broken.false) in
    let f = flushed_of it in
    let kept = c.self.invariant.0 in
    let held = c.self.invariant.1 whole in
    let did = c.in-Ok.ensures in
    let now = c.execute_all.new in
    let entries = executed_entries it.seat it.stored it.executed _ it.batch.items it.done.items _ _ _ _ (omega (arith, kept.begun, kept.marked)) kept.executed kept.stored held in
    executing_is g.D.Disk.honest g.D.Disk.images f (now.done.items ++ it.batch.items) now.broker now.self.boxes now.self.ended.items now.self.past.items now.self.waiting.items now.self.left.items whole kept
    (ap (λ (l : List (EntryValue SenderValue)). l ++ it.batch.items) did.same.0 ∙ sym entries.1)
    (did.boxes ∙ (λ i. boxes_after (broker_count g.D.Disk.honest g.D.Disk.images f whole kept i) it.outlet.boxes ((sym entries.0) i)))
    (did.done.ended_are ∙ ap (λ (l : List CommandValue). it.outlet.ended.items ++ ended_of it.broker.state l) held.done_is)
    (λ i. (c.execute_all.ensures.same.1 i).items)
    (did.done.broker ∙ ap (λ (l : List CommandValue). record { state = state_after it.broker.state l; broken = false }) held.done_is)
    (did.done.outs ∙ ap (λ (l : List CommandValue). it.outlet.waiting.items ++ outs_of it.broker.state l) held.done_is)
    c.execute_all.ensures.same.2
    ∙ ap (λ (f : Flushed g.row.D.Denot). executing f) c.self.view_is

pub returns-in-Ok-clause-untouched : goal.returns-in-Ok-clause-untouched
returns-in-Ok-clause-untouched g c = ap (λ (f : Flushed g.row.D.Denot). f.disk) c.self.view_is

pub returns-in-Ok-clause-breaks : goal.returns-in-Ok-clause-breaks
returns-in-Ok-clause-breaks g c = record { outcome = ((sym c.is_broken.ensures.value ∙ c.if-is_broken.false), (ap (λ (f : Flushed g.row.D.Denot). f.broken) c.self.view_is ∙ (sym c.is_broken.ensures.value ∙ c.if-is_broken.false))); stops = tt; fault = tt }

pub returns-in-Err-clause-executed : goal.returns-in-Err-clause-executed
returns-in-Err-clause-executed g c = tt

pub returns-in-Err-clause-untouched : goal.returns-in-Err-clause-untouched
returns-in-Err-clause-untouched g c = ap (λ (f : Flushed g.row.D.Denot). f.disk) c.self.view_is

pub returns-in-Err-clause-breaks : goal.returns-in-Err-clause-breaks
returns-in-Err-clause-breaks g c =
    let memory : IsMemory {T = Unit {0}} (Err c.in-Err.fault) = subst (λ (r : Result (Unit {0}) FlushFault). IsMemory {T = Unit {0}} r) c.in-Err.is c.execute_all.ensures.fault in
    record {
      outcome = fell_for_memory c.in-Err.fault _ _ memory (record {
        was = (sym c.is_broken.ensures.value ∙ c.if-is_broken.false);
        now = refl;
        seat = c.stop.ensures ∙ ap (λ (f : Flushed g.row.D.Denot). when_stopped f.seat) c.self.view_is;
        stored = ap (λ (f : Flushed g.row.D.Denot). f.stored) c.self.view_is;
        opening = ap (λ (f : Flushed g.row.D.Denot). f.opening) c.self.view_is;
        left = c.execute_all.ensures.same.2 ∙ ap (λ (f : Flushed g.row.D.Denot). f.left) c.self.view_is;
      });
      stops = (refl, ap (λ (s : FlushSeatValue). s.stopped) c.stop.ensures);
      fault = needs_memory c.in-Err.fault memory;
    }

pub execute_all-requires-clause-whole : goal.execute_all-requires-clause-whole
execute_all-requires-clause-whole g c = ap (λ (b : BrokerValue). b.broken) (c.self.invariant.0.running (ap (λ (f : Flushed g.row.D.Denot). f.broken) c.self.view_is ∙ (sym c.is_broken.ensures.value ∙ c.if-is_broken.false))).broker

pub execute_all-requires-clause-none : goal.execute_all-requires-clause-none
execute_all-requires-clause-none g c = (c.self.invariant.2 (ap (λ (f : Flushed g.row.D.Denot). f.broken) c.self.view_is ∙ (sym c.is_broken.ensures.value ∙ c.if-is_broken.false))).none

pub returns-then-is_broken-clause-executed : goal.returns-then-is_broken-clause-executed
returns-then-is_broken-clause-executed g c = tt

pub returns-then-is_broken-clause-untouched : goal.returns-then-is_broken-clause-untouched
returns-then-is_broken-clause-untouched g c = refl

pub returns-then-is_broken-clause-breaks : goal.returns-then-is_broken-clause-breaks
returns-then-is_broken-clause-breaks g c =
    let broken : c.args.self.now.broken ≡ true = sym c.is_broken.ensures.value ∙ c.if-is_broken.true in
    record { outcome = (broken, refl); stops = (broken, c.is_broken.ensures.kept.stopped broken); fault = tt }
