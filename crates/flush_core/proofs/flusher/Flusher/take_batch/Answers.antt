use Rattle.std.proofs.Common.{arith, ap, false, append_assoc, refl, sym, subst, ◌∙◌, ◌++◌, ◌≡◌, ◌≤◌, List, ℕ}
use Rattle.area_core.specs.Areas.{commands}
use Rattle.command_core.specs.Commands.{CommandValue}
use Rattle.command_core.specs.Entries.{EntryValue}
use Rattle.outbox_core.specs.Boxes.{SenderValue}
use Rattle.claim_core.specs.Seats.{FlushSeatValue, when_stopped}
use Rattle.flush_core.specs.Batches.{IsBatch, from_on, block_bytes, with_more}
use Rattle.flush_core.specs.FlusherFields.{flushed_of}
use Rattle.flush_core.specs.Flusher.{Flushed}
use Rattle.flush_core.specs.FlusherOutcomes.{taking}
use Rattle.flush_core.proofs.BacklogCounts.{counts_taken}
use Rattle.flush_core.proofs.FlusherKeeps.{all_brought, fails, held_more, takes}
use Rattle.flush_core.proofs.SessionBoxes.{commands_both}
use Rattle.flush_core.proofs.TakenCommands.{from_more}
use Rattle.flush_core.proofs.flusher.Flusher.take_batch.Goals as goal

pub invariant_of-self : goal.invariant_of-self
invariant_of-self g c =
    let it = c.self.inside in
    let whole : it.broken ≡ false = ap (λ (f : Flushed g.row.D.Denot). f.broken) c.self.view_is ∙ c.requires.whole in
    let f = flushed_of it in
    let kept = c.self.invariant.0 in
    let held = c.self.invariant.1 whole in
    let took = c.in-Ok.ensures.taken in
    let more = commands took.0 in
    let seat : c.fill.new.seat ≡ with_more it.seat more = took.2 in
    let is : commands c.fill.new.batch.items ≡ from_on c.fill.new.seat it.stored =
    ap (λ (l : List (EntryValue SenderValue)). commands l) took.3 ∙ (commands_both it.batch.items took.0
    ∙ (ap (λ (l : List CommandValue). l ++ more) held.batch_is ∙ (sym (from_more it.seat more it.stored kept.stored) ∙ ap (λ (s : FlushSeatValue). from_on s it.stored) (sym seat)))) in
    let begun : it.seat.base ≤ it.executed = omega (arith, kept.begun, kept.marked) in
    let now = held_more it.seat c.fill.new.seat more it.stored it.executed _ it.batch.items it.done.items c.fill.new.batch.items it.bytes c.fill.new.bytes _ _ _ seat is c.fill.ensures.bytes kept.executed kept.stored begun held in
    let brought = all_brought c.fill.new.seat it.stored it.executed _ c.fill.new.batch.items it.done.items c.fill.new.bytes _ _ _ (omega (arith, begun, ap (λ (s : FlushSeatValue). s.base) seat)) kept.executed now in (
      takes g.D.Disk.honest g.D.Disk.images f c.fill.new.seat more (it.done.items ++ c.fill.new.batch.items) seat brought whole kept,
      λ _. now,
      c.self.invariant.2,
      λ _. subst (λ n. IsBatch g.W.Width.COMMANDS n (commands c.fill.new.batch.items))
          (c.bytes_wanted-wanted.ensures.wanted ∙ ap (λ (f : Flushed g.row.D.Denot). block_bytes f.size g.W.Width.BYTES) (sym c.self.view_is)) c.fill.ensures.batch,
      λ _. counts_taken it.opening.value.state it.seat c.fill.new.seat more _ _ _ seat (omega (arith, kept.executed, kept.stored)) (c.self.invariant.4 whole),
    )

pub invariant_of-self-in-Err : goal.invariant_of-self-in-Err
invariant_of-self-in-Err g c =
    let it = c.self.inside in
    let f = flushed_of it in (
      fails g.D.Disk.honest g.D.Disk.images f c.stop.new.seat (it.done.items ++ c.fill.new.batch.items) it.broker it.outlet.boxes it.outlet.ended.items it.outlet.past.items it.outlet.waiting.items it.outlet.left.items
          (c.stop.ensures ∙ ap (λ (s : FlushSeatValue). when_stopped s) c.in-Err.ensures.refused) refl c.self.invariant.0,
      λ w. absurd (cc w),
      λ w. absurd (cc w),
      λ w. absurd (cc w),
      λ w. absurd (cc w),
    )

pub returns-in-Ok-clause-batch : goal.returns-in-Ok-clause-batch
returns-in-Ok-clause-batch g c =
    let it = c.self.inside in
    let whole : it.broken ≡ false = ap (λ (f : Flushed g.row.D.Denot). f.broken) c.self.view_is ∙ c.requires.whole in
    let held = c.self.invariant.1 whole in
    let took = c.in-Ok.ensures.taken in
    let more = commands took.0 in
    let is : commands c.fill.new.batch.items ≡ from_on c.fill.new.seat it.stored =
    ap (λ (l : List (EntryValue SenderValue)). commands l) took.3 ∙ (commands_both it.batch.items took.0
    ∙ (ap (λ (l : List CommandValue). l ++ more) held.batch_is ∙ (sym (from_more it.seat more it.stored c.self.invariant.0.stored) ∙ ap (λ (s : FlushSeatValue). from_on s it.stored) (sym took.2)))) in
    subst (λ (z : ℕ × List CommandValue). IsBatch g.W.Width.COMMANDS z.0 z.1) (λ i. (c.bytes_wanted-wanted.ensures.wanted i, is i)) c.fill.ensures.batch

pub returns-in-Ok-clause-taken : goal.returns-in-Ok-clause-taken
returns-in-Ok-clause-taken g c =
    let it = c.self.inside in
    let f = flushed_of it in
    let took = c.in-Ok.ensures.taken in (
      took.0,
      took.1,
      (λ i. record f { seat = took.2 i; brought = (ap (λ (l : List (EntryValue SenderValue)). it.done.items ++ l) took.3 ∙ sym (append_assoc it.done.items it.batch.items took.0)) i })
          ∙ ap (λ (f : Flushed g.row.D.Denot). taking f took.0) c.self.view_is,
    )

pub returns-in-Ok-clause-untouched : goal.returns-in-Ok-clause-untouched
returns-in-Ok-clause-untouched g c = tt

pub returns-in-Ok-clause-breaks : goal.returns-in-Ok-clause-breaks
returns-in-Ok-clause-breaks g c = record { outcome = (c.requires.whole, (ap (λ (f : Flushed g.row.D.Denot). f.broken) c.self.view_is ∙ c.requires.whole)); stops = tt; fault = tt }

pub returns-in-Err-clause-taken : goal.returns-in-Err-clause-taken
returns-in-Err-clause-taken g c = tt

pub returns-in-Err-clause-batch : goal.returns-in-Err-clause-batch
returns-in-Err-clause-batch g c = tt

pub returns-in-Err-clause-untouched : goal.returns-in-Err-clause-untouched
returns-in-Err-clause-untouched g c = (
  ap (λ (f : Flushed g.row.D.Denot). f.disk) c.self.view_is,
  ap (λ (s : FlushSeatValue). s.taken) c.stop.ensures ∙ (ap (λ (s : FlushSeatValue). s.taken) c.in-Err.ensures.refused ∙ ap (λ (f : Flushed g.row.D.Denot). f.seat.taken) c.self.view_is),
)

pub returns-in-Err-clause-breaks : goal.returns-in-Err-clause-breaks
returns-in-Err-clause-breaks g c = record {
  outcome = record {
    was = c.requires.whole;
    now = refl;
    seat = c.stop.ensures ∙ ap (λ (s : FlushSeatValue). when_stopped s) (c.in-Err.ensures.refused ∙ ap (λ (f : Flushed g.row.D.Denot). f.seat) c.self.view_is);
    stored = ap (λ (f : Flushed g.row.D.Denot). f.stored) c.self.view_is;
    opening = ap (λ (f : Flushed g.row.D.Denot). f.opening) c.self.view_is;
    left = ap (λ (f : Flushed g.row.D.Denot). f.left) c.self.view_is;
  };
  stops = (refl, ap (λ (s : FlushSeatValue). s.stopped) c.stop.ensures);
  fault = tt;
}

pub fill-requires-clause-bytes : goal.fill-requires-clause-bytes
fill-requires-clause-bytes g c = (c.self.invariant.1 (ap (λ (f : Flushed g.row.D.Denot). f.broken) c.self.view_is ∙ c.requires.whole)).bytes_is

pub fill-requires-clause-batch : goal.fill-requires-clause-batch
fill-requires-clause-batch g c =
    subst (λ n. IsBatch g.W.Width.COMMANDS n (commands c.self.inside.batch.items))
    (sym (c.bytes_wanted-wanted.ensures.wanted ∙ ap (λ (f : Flushed g.row.D.Denot). block_bytes f.size g.W.Width.BYTES) (sym c.self.view_is))) (c.self.invariant.3 (ap (λ (f : Flushed g.row.D.Denot). f.broken) c.self.view_is ∙ c.requires.whole))
