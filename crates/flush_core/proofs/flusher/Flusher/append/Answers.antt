use Rattle.std.proofs.Common.{Err, true, ◌+◌, ◌-◌, arith, ap, ◌++◌, subst, sym, refl, length, take, drop, ◌≤◌, ◌∙◌, ◌≡◌, List, ℕ, false}
use Rattle.std.proofs.lemmas.List.{length-drop, take-map}
use Rattle.std.specs.List.{drop-map}
use Rattle.disk_core.specs.Calls.{Lasts}
use Rattle.disk_core.specs.Moments.{LeavesOnly}
use Rattle.area_core.specs.Areas.{commands, records}
use Rattle.area_core.specs.Steps.{IsCaused}
use Rattle.area_core.specs.declared.faults.AreaFault.{AreaFault}
use Rattle.area_core.specs.declared.faults.AreaFault.TheVariants as area
use Rattle.claim_core.specs.Seats.{FlushSeatValue, when_stopped}
use Rattle.flush_core.specs.declared.faults.FlushFault.{FlushFault}
use Rattle.flush_core.specs.declared.faults.FlushFault.TheVariants.{Full}
use Rattle.flush_core.specs.Faults.{IfMemory, IsFlushCaused}
use Rattle.flush_core.proofs.StoreFaults.{caused_from, fell_so, only_full, same_fault, untouched_from}
use Rattle.broker_core.specs.States.{State}
use Rattle.broker_core.specs.Steps.{state_after}
use Rattle.command_core.specs.Commands.{CommandValue}
use Rattle.command_core.specs.Entries.{EntryValue}
use Rattle.outbox_core.specs.Boxes.{SenderValue}
use Rattle.recover_core.specs.Standing.{StandFor, StandsForEither}
use Rattle.flush_core.specs.Batches.{IsBatch, from_on, state_at, block_bytes}
use Rattle.recover_core.specs.Stores.{disk_of, size_of, used_of}
use Rattle.flush_core.specs.FlusherFields.{flushed_of}
use Rattle.flush_core.specs.Flusher.{Flushed, gathered}
use Rattle.flush_core.specs.FlusherOutcomes.{IsOutcome, storing}
use Rattle.flush_core.specs.Room.{Fits, HasNoRoom, IsTooLong}
use Rattle.flush_core.proofs.Room.{lacks_room}
use Rattle.flush_core.proofs.FlusherKeeps.{hold_either, held_stored, store_fails, stored_brought, stores}
use Rattle.flush_core.proofs.BatchPrefixes.{rest_is_batch}
use Rattle.flush_core.proofs.TakenCommands.{at_front, length_commands, length_from}
use Rattle.flush_core.proofs.flusher.Flusher.append.Goals as goal

pub invariant_of-self : goal.invariant_of-self
invariant_of-self g c =
    let it = c.self.inside in
    let whole : it.broken ≡ false = ap (λ (f : Flushed g.row.D.Denot). f.broken) c.self.view_is ∙ c.requires.done.0 in
    let f = flushed_of it in
    let opening = it.opening.value.state in
    let kept = c.self.invariant.0 in
    let held = c.self.invariant.1 whole in
    let s = state_at opening it.seat it.stored in
    let executed : it.executed ≡ it.stored = subst (λ (f : Flushed g.row.D.Denot). f.executed ≡ f.stored) (sym c.self.view_is) c.requires.done.1 in
    let is : commands (take c.args.count it.batch.items) ≡ take c.args.count (from_on it.seat it.stored) = sym (take-map (λ (entry : EntryValue SenderValue). entry.command) c.args.count it.batch.items) ∙ ap (λ (l : List CommandValue). take c.args.count l) (c.self.invariant.1 whole).batch_is in
    let state : state_after s (commands (take c.args.count it.batch.items)) ≡ state_at opening it.seat (it.stored + c.args.count) =
    ap (λ (l : List CommandValue). state_after s l) is ∙ at_front opening it.seat it.stored c.args.count (omega (arith, c.self.invariant.0.begun, c.self.invariant.0.marked, c.self.invariant.0.executed)) in
    let within : c.args.count ≤ length (from_on it.seat it.stored) = subst (λ (f : Flushed g.row.D.Denot). c.args.count ≤ length (gathered f)) (sym c.self.view_is) c.requires.count.1 in
    let begun : it.seat.base ≤ it.stored = omega (arith, kept.begun, kept.marked, kept.executed) in
    let all = length_from it.seat it.stored begun kept.stored in
    let number : c.saturating_sub-self-inside.result ≡ it.stored + c.args.count = omega (
      arith,
      all,
      within,
      c.next.ensures.next,
      c.in-Ok.rest.ok.0,
      ap (λ (l : List (EntryValue SenderValue)). length l) c.in-Ok.ensures.adds.rest_is,
      length-drop c.args.count it.batch.items,
      length_commands it.batch.items,
      ap (λ (l : List CommandValue). length l) held.batch_is,
    ) in
    let done : c.replace.result.items ≡ take c.args.count it.batch.items = (λ i. (c.replace.ensures.value i).items) ∙ c.in-Ok.ensures.adds.first_is in
    let rest : c.replace.new.dest.items ≡ drop c.args.count it.batch.items = (λ i. (c.replace.ensures.after i).items) ∙ c.in-Ok.ensures.adds.rest_is in
    let same = stored_brought it.seat it.stored it.executed c.args.count _ it.batch.items it.done.items _ _ _ _ _ _ rest done executed held in (
      stores g.D.Disk.honest g.D.Disk.images f c.append_first.new.journal.disk _ _ c.saturating_sub-self-inside.result (record f.last { block = it.stored }) (c.replace.result.items ++ c.replace.new.dest.items) (omega (arith, number)) (omega (arith, number, all, within)) whole
          (λ h. let was = c.append_first.ensures.lasts.was_honest h in
          subst (λ (s : State). StandFor (g.D.Disk.images c.append_first.new.journal.disk) s)
          (state ∙ ap (λ n. state_at opening it.seat n) (sym number))
          (c.in-Ok.ensures.adds.adds.stands was s ((kept.running whole).stands was))) same kept,
      λ w. held_stored it.seat it.stored c.saturating_sub-self-inside.result it.executed c.args.count _ _ it.batch.items it.done.items c.replace.new.dest.items c.replace.result.items it.bytes c.bytes_without-self-inside.result _ _ _
          rest done number (omega (arith, c.next.ensures.most)) c.in-Ok.ensures.adds.whole executed begun
          (c.bytes_without-self-inside.ensures ∙ ap (λ es. it.bytes - length (records (commands es))) (c.deref.ensures.value ∙ sym (λ i. (c.replace.ensures.value i).items))) held,
      c.self.invariant.2,
      λ w. subst (λ (z : ℕ × List CommandValue). IsBatch g.W.Width.COMMANDS (block_bytes z.0 g.W.Width.BYTES) z.1)
          (λ i. (sym c.append_first.ensures.size i, sym (ap (λ (l : List (EntryValue SenderValue)). commands l) rest ∙ sym (drop-map (λ (entry : EntryValue SenderValue). entry.command) c.args.count it.batch.items)) i))
          (rest_is_batch g.W.Width.COMMANDS (block_bytes (size_of it.journal) g.W.Width.BYTES) c.args.count (commands it.batch.items) (c.self.invariant.3 whole)),
      c.self.invariant.4,
    )

pub invariant_of-self-in-Err : goal.invariant_of-self-in-Err
invariant_of-self-in-Err g c =
    let it = c.self.inside in
    let whole : it.broken ≡ false = ap (λ (f : Flushed g.row.D.Denot). f.broken) c.self.view_is ∙ c.requires.done.0 in
    let f = flushed_of it in
    let opening = it.opening.value.state in
    let kept = c.self.invariant.0 in
    let s = state_at opening it.seat it.stored in
    let is : commands (take c.args.count it.batch.items) ≡ take c.args.count (from_on it.seat it.stored) = sym (take-map (λ (entry : EntryValue SenderValue). entry.command) c.args.count it.batch.items) ∙ ap (λ (l : List CommandValue). take c.args.count l) (c.self.invariant.1 whole).batch_is in
    let state : state_after s (commands (take c.args.count it.batch.items)) ≡ state_at opening it.seat (it.stored + c.args.count) =
    ap (λ (l : List CommandValue). state_after s l) is ∙ at_front opening it.seat it.stored c.args.count (omega (arith, c.self.invariant.0.begun, c.self.invariant.0.marked, c.self.invariant.0.executed)) in
    let within : c.args.count ≤ length (from_on it.seat it.stored) = subst (λ (f : Flushed g.row.D.Denot). c.args.count ≤ length (gathered f)) (sym c.self.view_is) c.requires.count.1 in
    let begun : it.seat.base ≤ it.stored = omega (arith, kept.begun, kept.marked, kept.executed) in (
      store_fails g.D.Disk.honest g.D.Disk.images f c.stop.new.seat c.append_first.new.journal.disk _ _ (it.done.items ++ c.append_first.new.batch.items) c.stop.ensures
          (λ h. let was = c.append_first.ensures.lasts.was_honest h in
          let leaves = c.append_first.ensures.any_moment s ((kept.running whole).stands was) was in
          hold_either (g.D.Disk.images c.append_first.new.journal.disk) opening it.seat it.stored (it.stored + c.args.count) (omega (arith, kept.marked, kept.executed)) (omega arith) (omega (arith, within, length_from it.seat it.stored begun kept.stored))
          (λ image among. subst (λ (t : State). StandsForEither s t image) state
          (leaves.each image (g.met.D.Disk.counts_now c.append_first.new.journal.disk (g.D.Disk.moment it.journal.disk) image leaves.later among)))) kept,
      λ w. absurd (cc w),
      λ w. absurd (cc w),
      λ w. absurd (cc w),
      λ w. absurd (cc w),
    )

pub returns-in-Ok-clause-any_moment : goal.returns-in-Ok-clause-any_moment
returns-in-Ok-clause-any_moment g c =
    let it = c.self.inside in
    let whole : it.broken ≡ false = ap (λ (f : Flushed g.row.D.Denot). f.broken) c.self.view_is ∙ c.requires.done.0 in
    let opening = it.opening.value.state in
    let s = state_at opening it.seat it.stored in
    let is : commands (take c.args.count it.batch.items) ≡ take c.args.count (from_on it.seat it.stored) = sym (take-map (λ (entry : EntryValue SenderValue). entry.command) c.args.count it.batch.items) ∙ ap (λ (l : List CommandValue). take c.args.count l) (c.self.invariant.1 whole).batch_is in
    let state : state_after s (commands (take c.args.count it.batch.items)) ≡ state_at opening it.seat (it.stored + c.args.count) =
    ap (λ (l : List CommandValue). state_after s l) is ∙ at_front opening it.seat it.stored c.args.count (omega (arith, c.self.invariant.0.begun, c.self.invariant.0.marked, c.self.invariant.0.executed)) in
    subst (λ (f : Flushed g.row.D.Denot). g.D.Disk.honest f.disk → f.broken ≡ false → LeavesOnly g.D.Disk.moment g.D.Disk.images_since f.disk c.append_first.new.journal.disk (StandsForEither (state_at f.opening f.seat f.stored) (state_at f.opening f.seat (f.stored + c.args.count)))) c.self.view_is
    (λ h w. subst (λ (t : State). LeavesOnly g.D.Disk.moment g.D.Disk.images_since it.journal.disk c.append_first.new.journal.disk (StandsForEither s t)) state
    (c.append_first.ensures.any_moment s ((c.self.invariant.0.running w).stands h) h))

pub returns-in-Err-clause-any_moment : goal.returns-in-Err-clause-any_moment
returns-in-Err-clause-any_moment g c =
    let it = c.self.inside in
    let whole : it.broken ≡ false = ap (λ (f : Flushed g.row.D.Denot). f.broken) c.self.view_is ∙ c.requires.done.0 in
    let opening = it.opening.value.state in
    let s = state_at opening it.seat it.stored in
    let is : commands (take c.args.count it.batch.items) ≡ take c.args.count (from_on it.seat it.stored) = sym (take-map (λ (entry : EntryValue SenderValue). entry.command) c.args.count it.batch.items) ∙ ap (λ (l : List CommandValue). take c.args.count l) (c.self.invariant.1 whole).batch_is in
    let state : state_after s (commands (take c.args.count it.batch.items)) ≡ state_at opening it.seat (it.stored + c.args.count) =
    ap (λ (l : List CommandValue). state_after s l) is ∙ at_front opening it.seat it.stored c.args.count (omega (arith, c.self.invariant.0.begun, c.self.invariant.0.marked, c.self.invariant.0.executed)) in
    subst (λ (f : Flushed g.row.D.Denot). g.D.Disk.honest f.disk → f.broken ≡ false → LeavesOnly g.D.Disk.moment g.D.Disk.images_since f.disk c.append_first.new.journal.disk (StandsForEither (state_at f.opening f.seat f.stored) (state_at f.opening f.seat (f.stored + c.args.count)))) c.self.view_is
    (λ h w. subst (λ (t : State). LeavesOnly g.D.Disk.moment g.D.Disk.images_since it.journal.disk c.append_first.new.journal.disk (StandsForEither s t)) state
    (c.append_first.ensures.any_moment s ((c.self.invariant.0.running w).stands h) h))

pub returns-in-Ok-clause-stores : goal.returns-in-Ok-clause-stores
returns-in-Ok-clause-stores g c = record {
  stands = let it = c.self.inside in
      let whole : it.broken ≡ false = ap (λ (f : Flushed g.row.D.Denot). f.broken) c.self.view_is ∙ c.requires.done.0 in
      let opening = it.opening.value.state in
      let s = state_at opening it.seat it.stored in
      let is : commands (take c.args.count it.batch.items) ≡ take c.args.count (from_on it.seat it.stored) = sym (take-map (λ (entry : EntryValue SenderValue). entry.command) c.args.count it.batch.items) ∙ ap (λ (l : List CommandValue). take c.args.count l) (c.self.invariant.1 whole).batch_is in
      let state : state_after s (commands (take c.args.count it.batch.items)) ≡ state_at opening it.seat (it.stored + c.args.count) =
      ap (λ (l : List CommandValue). state_after s l) is ∙ at_front opening it.seat it.stored c.args.count (omega (arith, c.self.invariant.0.begun, c.self.invariant.0.marked, c.self.invariant.0.executed)) in
      subst (λ (f : Flushed g.row.D.Denot). g.D.Disk.honest f.disk → StandFor (g.D.Disk.images c.append_first.new.journal.disk) (state_at f.opening f.seat (f.stored + c.args.count))) c.self.view_is
      (λ h. subst (λ (t : State). StandFor (g.D.Disk.images c.append_first.new.journal.disk) t) state
      (c.in-Ok.ensures.adds.adds.stands h s ((c.self.invariant.0.running whole).stands h)));
  stored = let it = c.self.inside in
      let whole : it.broken ≡ false = ap (λ (f : Flushed g.row.D.Denot). f.broken) c.self.view_is ∙ c.requires.done.0 in
      let f = flushed_of it in
      let kept = c.self.invariant.0 in
      let held = c.self.invariant.1 whole in
      let executed : it.executed ≡ it.stored = subst (λ (f : Flushed g.row.D.Denot). f.executed ≡ f.stored) (sym c.self.view_is) c.requires.done.1 in
      let within : c.args.count ≤ length (from_on it.seat it.stored) = subst (λ (f : Flushed g.row.D.Denot). c.args.count ≤ length (gathered f)) (sym c.self.view_is) c.requires.count.1 in
      let begun : it.seat.base ≤ it.stored = omega (arith, kept.begun, kept.marked, kept.executed) in
      let all = length_from it.seat it.stored begun kept.stored in
      let number : c.saturating_sub-self-inside.result ≡ it.stored + c.args.count = omega (
        arith,
        all,
        within,
        c.next.ensures.next,
        c.in-Ok.rest.ok.0,
        ap (λ (l : List (EntryValue SenderValue)). length l) c.in-Ok.ensures.adds.rest_is,
        length-drop c.args.count it.batch.items,
        length_commands it.batch.items,
        ap (λ (l : List CommandValue). length l) held.batch_is,
      ) in
      let done : c.replace.result.items ≡ take c.args.count it.batch.items = (λ i. (c.replace.ensures.value i).items) ∙ c.in-Ok.ensures.adds.first_is in
      let rest : c.replace.new.dest.items ≡ drop c.args.count it.batch.items = (λ i. (c.replace.ensures.after i).items) ∙ c.in-Ok.ensures.adds.rest_is in
      let same = stored_brought it.seat it.stored it.executed c.args.count _ it.batch.items it.done.items _ _ _ _ _ _ rest done executed held in
      (λ i. record f { disk = disk_of c.append_first.new.journal; size = size_of c.append_first.new.journal; used = used_of c.append_first.new.journal; stored = number i; brought = same i; last = record f.last { block = it.stored } })
      ∙ ap (λ (f : Flushed g.row.D.Denot). storing f (f.stored + c.args.count) (disk_of c.append_first.new.journal) (size_of c.append_first.new.journal) (used_of c.append_first.new.journal) (record f.last { block = f.stored })) c.self.view_is;
  used = let it = c.self.inside in
      let whole : it.broken ≡ false = ap (λ (f : Flushed g.row.D.Denot). f.broken) c.self.view_is ∙ c.requires.done.0 in
      let is : commands (take c.args.count it.batch.items) ≡ take c.args.count (from_on it.seat it.stored) = sym (take-map (λ (entry : EntryValue SenderValue). entry.command) c.args.count it.batch.items) ∙ ap (λ (l : List CommandValue). take c.args.count l) (c.self.invariant.1 whole).batch_is in
      subst (λ (f : Flushed g.row.D.Denot). used_of c.append_first.new.journal ≡ f.used + 9 + length (records (take c.args.count (gathered f)))) c.self.view_is
      (subst (λ (l : List CommandValue). used_of c.append_first.new.journal ≡ used_of it.journal + 9 + length (records l)) is c.in-Ok.ensures.adds.adds.used);
  fits = let it = c.self.inside in
      let whole : it.broken ≡ false = ap (λ (f : Flushed g.row.D.Denot). f.broken) c.self.view_is ∙ c.requires.done.0 in
      let is : commands (take c.args.count it.batch.items) ≡ take c.args.count (from_on it.seat it.stored) = sym (take-map (λ (entry : EntryValue SenderValue). entry.command) c.args.count it.batch.items) ∙ ap (λ (l : List CommandValue). take c.args.count l) (c.self.invariant.1 whole).batch_is in
      subst (λ (f : Flushed g.row.D.Denot). Fits f.size f.used (take c.args.count (gathered f))) c.self.view_is
      (subst (λ (l : List CommandValue). Fits (size_of it.journal) (used_of it.journal) l) is c.in-Ok.ensures.adds.fits);
  size = c.append_first.ensures.size ∙ ap (λ (f : Flushed g.row.D.Denot). f.size) c.self.view_is;
}

pub returns-in-Ok-clause-refuses : goal.returns-in-Ok-clause-refuses
returns-in-Ok-clause-refuses g c = record {
  full = λ is. absurd (cc is);
  no_room = λ honest is. absurd (cc is);
  memory = tt;
}

pub returns-in-Ok-clause-breaks : goal.returns-in-Ok-clause-breaks
returns-in-Ok-clause-breaks g c = record {
  outcome = (c.requires.done.0, (ap (λ (f : Flushed g.row.D.Denot). f.broken) c.self.view_is ∙ c.requires.done.0));
  stops = tt;
  cause = let it = c.self.inside in
      let after = g.D.Disk.failures c.append_first.new.journal.disk in
      subst (λ (f : Flushed g.row.D.Denot). after ≡ g.D.Disk.failures f.disk) c.self.view_is
      (subst (λ r. IsCaused (g.D.Disk.failures it.journal.disk) after r) c.in-Ok.is c.append_first.ensures.refuses.cause);
}

pub returns-in-Err-clause-refuses : goal.returns-in-Err-clause-refuses
returns-in-Err-clause-refuses g c = record {
  full = λ is. let it = c.self.inside in
      let whole : it.broken ≡ false = ap (λ (f : Flushed g.row.D.Denot). f.broken) c.self.view_is ∙ c.requires.done.0 in
      let full = only_full c.in-Err.fault (sym c.from.ensures ∙ same_fault c.from.result Full is) in
      let told = c.append_first.ensures.refuses.block.full (c.in-Err.is ∙ ap (λ (fault : AreaFault). Err fault) full) in
      let is : commands (take c.args.count it.batch.items) ≡ take c.args.count (from_on it.seat it.stored) = sym (take-map (λ (entry : EntryValue SenderValue). entry.command) c.args.count it.batch.items) ∙ ap (λ (l : List CommandValue). take c.args.count l) (c.self.invariant.1 whole).batch_is in
      subst (λ (f : Flushed g.row.D.Denot). IsTooLong f.size f.used (take c.args.count (gathered f)) × (c.append_first.new.journal.disk ≡ f.disk)) c.self.view_is
      (subst (λ (l : List CommandValue). IsTooLong (size_of it.journal) (used_of it.journal) l) is told.0, told.1);
  no_room = λ honest is. let it = c.self.inside in
      let whole : it.broken ≡ false = ap (λ (f : Flushed g.row.D.Denot). f.broken) c.self.view_is ∙ c.requires.done.0 in
      let s = state_at it.opening.value.state it.seat it.stored in
      let full = only_full c.in-Err.fault (sym c.from.ensures ∙ same_fault c.from.result Full is) in
      let told = c.append_first.ensures.refuses.block.full (c.in-Err.is ∙ ap (λ (fault : AreaFault). Err fault) full) in
      let is : commands (take c.args.count it.batch.items) ≡ take c.args.count (from_on it.seat it.stored) = sym (take-map (λ (entry : EntryValue SenderValue). entry.command) c.args.count it.batch.items) ∙ ap (λ (l : List CommandValue). take c.args.count l) (c.self.invariant.1 whole).batch_is in
      let was : g.D.Disk.honest it.journal.disk = subst (λ (f : Flushed g.row.D.Denot). g.D.Disk.honest f.disk) (sym c.self.view_is) honest in
      subst (λ (f : Flushed g.row.D.Denot). HasNoRoom (g.D.Disk.content f.disk) (state_at f.opening f.seat f.stored) (take c.args.count (gathered f))) c.self.view_is
      (lacks_room it.journal.area (g.D.Disk.images it.journal.disk) (g.D.Disk.content it.journal.disk) s (take c.args.count (from_on it.seat it.stored)) (g.met.D.Disk.reads it.journal.disk was)
      (it.journal.sound was (c.self.invariant.1 whole).whole) ((c.self.invariant.0.running whole).stands was)
      (subst (λ (l : List CommandValue). IsTooLong (size_of it.journal) (used_of it.journal) l) is told.0));
  memory = let it = c.self.inside in
      let next = c.append_first.new.journal.disk in
      subst (λ (f : Flushed g.row.D.Denot). IfMemory {T = Unit {0}} (Err c.from.result) (next ≡ f.disk)) c.self.view_is
      (subst (λ (fault : FlushFault). IfMemory {T = Unit {0}} (Err fault) (next ≡ it.journal.disk)) (sym c.from.ensures)
      (untouched_from c.append_first.result c.in-Err.fault (next ≡ it.journal.disk) c.in-Err.is c.append_first.ensures.refuses.block.memory));
}

pub returns-in-Err-clause-breaks : goal.returns-in-Err-clause-breaks
returns-in-Err-clause-breaks g c = record {
  outcome = let it = c.self.inside in
      let whole : it.broken ≡ false = ap (λ (f : Flushed g.row.D.Denot). f.broken) c.self.view_is ∙ c.requires.done.0 in
      let now = c.args.self.now in
      let new = flushed_of (record it { journal = c.append_first.new.journal; seat = c.stop.new.seat; batch = c.append_first.new.batch; broken = true }) in
      let other : c.in-Err.fault ≡ area.Broken → ⊥ = λ is. absurd (cc (c.append_first.ensures.refuses.sound (c.in-Err.is ∙ ap (λ (fault : AreaFault). Err fault) is), (c.self.invariant.1 whole).whole)) in
      subst (λ (fault : FlushFault). IsOutcome {X = Unit {0}} now new (Err fault)) (sym c.from.ensures)
      (fell_so c.in-Err.fault now new other (record {
        was = c.requires.done.0;
        now = refl;
        seat = c.stop.ensures ∙ ap (λ (f : Flushed g.row.D.Denot). when_stopped f.seat) c.self.view_is;
        stored = ap (λ (f : Flushed g.row.D.Denot). f.stored) c.self.view_is;
        opening = ap (λ (f : Flushed g.row.D.Denot). f.opening) c.self.view_is;
        left = ap (λ (f : Flushed g.row.D.Denot). f.left) c.self.view_is;
      }));
  stops = (refl, ap (λ (s : FlushSeatValue). s.stopped) c.stop.ensures);
  cause = let it = c.self.inside in
      let before = g.D.Disk.failures it.journal.disk in
      let after = g.D.Disk.failures c.append_first.new.journal.disk in
      subst (λ (f : Flushed g.row.D.Denot). IsFlushCaused {T = Unit {0}} (g.D.Disk.failures f.disk) after (Err c.from.result)) c.self.view_is
      (subst (λ (fault : FlushFault). IsFlushCaused {T = Unit {0}} before after (Err fault)) (sym c.from.ensures)
      (caused_from c.append_first.result c.in-Err.fault before after c.in-Err.is c.append_first.ensures.refuses.cause));
}

pub returns-in-Err-clause-stores : goal.returns-in-Err-clause-stores
returns-in-Err-clause-stores g c = tt

pub returns-in-Ok-clause-lasts : goal.returns-in-Ok-clause-lasts
returns-in-Ok-clause-lasts g c = subst (λ (f : Flushed g.row.D.Denot). Lasts g.D.Disk f.disk c.append_first.new.journal.disk) c.self.view_is c.append_first.ensures.lasts

pub returns-in-Err-clause-lasts : goal.returns-in-Err-clause-lasts
returns-in-Err-clause-lasts g c = subst (λ (f : Flushed g.row.D.Denot). Lasts g.D.Disk f.disk c.append_first.new.journal.disk) c.self.view_is c.append_first.ensures.lasts
