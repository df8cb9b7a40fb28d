use Rattle.std.proofs.Common.{◌∙◌, ◌≡◌, ◌++◌, ◌-◌, Err, Result, Some, ap, arith, refl, subst, sym, false, true}
use Rattle.disk_core.specs.Calls.{Lasts}
use Rattle.disk_core.specs.Moments.{LeavesOnly}
use Rattle.disk_core.proofs.Runs.{weaker}
use Rattle.area_core.specs.Puts.{Each}
use Rattle.area_core.specs.Steps.{IsCaused}
use Rattle.area_core.specs.declared.faults.AreaFault.{AreaFault}
use Rattle.area_core.specs.declared.faults.AreaFault.TheVariants as area
use Rattle.claim_core.specs.Seats.{FlushSeatValue, when_stopped}
use Rattle.broker_core.specs.States.{BrokerValue, State}
use Rattle.recover_core.specs.Compactions.{HasNoRoomFor, HoldsItAlone}
use Rattle.recover_core.specs.Standing.{StandFor, Stands}
use Rattle.recover_core.specs.Stores.{disk_of, size_of, used_of}
use Rattle.flush_core.specs.declared.faults.FlushFault.{FlushFault}
use Rattle.flush_core.specs.declared.faults.FlushFault.TheVariants.{Full}
use Rattle.flush_core.specs.Faults.{IsFlushCaused}
use Rattle.flush_core.specs.FlusherOutcomes.{IsOutcome, compacted}
use Rattle.flush_core.specs.Batches.{IsBatch, state_at, block_bytes}
use Rattle.area_core.specs.Areas.{commands}
use Rattle.flush_core.specs.FlusherFields.{flushed_of}
use Rattle.flush_core.specs.Flusher.{Flushed}
use Rattle.flush_core.specs.Room.{HasNoRoomForState, used_afresh}
use Rattle.flush_core.proofs.CompactionLeaves.{given_state, leaves_state, stand_then}
use Rattle.flush_core.proofs.BacklogCounts.{counts_none}
use Rattle.flush_core.proofs.FlusherKeeps.{compacts, hold_at, store_fails}
use Rattle.flush_core.proofs.Room.{lacks_room_for_state}
use Rattle.flush_core.proofs.StoreFaults.{caused_so, fell_so, only_full, same_fault}
use Rattle.flush_core.proofs.flusher.Flusher.compact_journal.Goals as goal

pub invariant_of-self : goal.invariant_of-self
invariant_of-self g c =
    let it = c.self.inside in
    let whole : it.broken ≡ false = ap (λ (f : Flushed g.row.D.Denot). f.broken) c.self.view_is ∙ c.requires.done.0 in
    let f = flushed_of it in
    let kept = c.self.invariant.0 in
    let s = state_at it.opening.value.state it.seat it.stored in
    let same : it.broker.state ≡ s = given_state g.D.Disk.honest g.D.Disk.images _ c.args.self.now c.self.view_is c.self.invariant.0 whole c.requires.done.1 in
    let stand : g.D.Disk.honest c.compact.new.self.disk → StandFor (g.D.Disk.images c.compact.new.self.disk) s = λ h.
    stand_then g.D.Disk it.journal.disk c.compact.new.self.disk s it.broker.state same (weaker g.D.Disk it.journal.disk c.compact.new.self.disk _ _ (c.compact.ensures.any_moment (c.self.invariant.1 whole).whole (c.compact.ensures.lasts.was_honest h)) (λ image is. is.stands))
    (λ t image le among. g.met.D.Disk.counts_now c.compact.new.self.disk t image le among) in (
      compacts g.D.Disk.honest g.D.Disk.images f c.compact.new.self.disk _ _ _ whole stand kept,
      λ w. let held = c.self.invariant.1 w in record { whole = c.in-Ok.ensures.breaks.ok; batch_is = held.batch_is; bytes_is = held.bytes_is; done_is = held.done_is; few = held.few; room_is = held.room_is },
      c.self.invariant.2,
      λ w. subst (λ n. IsBatch g.W.Width.COMMANDS (block_bytes n g.W.Width.BYTES) (commands it.batch.items)) (sym c.compact.ensures.keeps.size) (c.self.invariant.3 w),
      λ w. counts_none it.opening.value.state it.seat it.stored it.executed (omega (arith, kept.begun, kept.marked, kept.executed)) (subst (λ (f : Flushed g.row.D.Denot). f.executed ≡ f.stored) (sym c.self.view_is) c.requires.done.1),
    )

pub invariant_of-self-in-Err : goal.invariant_of-self-in-Err
invariant_of-self-in-Err g c =
    let it = c.self.inside in
    let whole : it.broken ≡ false = ap (λ (f : Flushed g.row.D.Denot). f.broken) c.self.view_is ∙ c.requires.done.0 in
    let f = flushed_of it in
    let kept = c.self.invariant.0 in
    let s = state_at it.opening.value.state it.seat it.stored in
    let same : it.broker.state ≡ s = given_state g.D.Disk.honest g.D.Disk.images _ c.args.self.now c.self.view_is c.self.invariant.0 whole c.requires.done.1 in
    let stand : g.D.Disk.honest c.compact.new.self.disk → StandFor (g.D.Disk.images c.compact.new.self.disk) s = λ h.
    stand_then g.D.Disk it.journal.disk c.compact.new.self.disk s it.broker.state same (weaker g.D.Disk it.journal.disk c.compact.new.self.disk _ _ (c.compact.ensures.any_moment (c.self.invariant.1 whole).whole (c.compact.ensures.lasts.was_honest h)) (λ image is. is.stands))
    (λ t image le among. g.met.D.Disk.counts_now c.compact.new.self.disk t image le among) in (
      store_fails g.D.Disk.honest g.D.Disk.images f c.stop.new.seat c.compact.new.self.disk _ _ (it.done.items ++ it.batch.items) c.stop.ensures
          (λ h. hold_at (g.D.Disk.images c.compact.new.self.disk) it.opening.value.state it.seat it.stored (omega (arith, kept.marked, kept.executed)) kept.stored (stand h)) kept,
      λ w. absurd (cc w),
      λ w. absurd (cc w),
      λ w. absurd (cc w),
      λ w. absurd (cc w),
    )

pub returns-in-Ok-clause-any_moment : goal.returns-in-Ok-clause-any_moment
returns-in-Ok-clause-any_moment g c =
    let it = c.self.inside in
    let whole : it.broken ≡ false = ap (λ (f : Flushed g.row.D.Denot). f.broken) c.self.view_is ∙ c.requires.done.0 in
    let s = state_at it.opening.value.state it.seat it.stored in
    let same : it.broker.state ≡ s = given_state g.D.Disk.honest g.D.Disk.images _ c.args.self.now c.self.view_is c.self.invariant.0 whole c.requires.done.1 in
    subst (λ (f : Flushed g.row.D.Denot). g.D.Disk.honest f.disk → f.broken ≡ false → LeavesOnly g.D.Disk.moment g.D.Disk.images_since f.disk c.compact.new.self.disk (λ c. Stands c (state_at f.opening f.seat f.stored))) c.self.view_is
    (λ h w. leaves_state g.D.Disk it.journal.disk c.compact.new.self.disk s it.broker.state same (weaker g.D.Disk it.journal.disk c.compact.new.self.disk _ _ (c.compact.ensures.any_moment (c.self.invariant.1 w).whole h) (λ image is. is.stands)))

pub returns-in-Err-clause-any_moment : goal.returns-in-Err-clause-any_moment
returns-in-Err-clause-any_moment g c =
    let it = c.self.inside in
    let whole : it.broken ≡ false = ap (λ (f : Flushed g.row.D.Denot). f.broken) c.self.view_is ∙ c.requires.done.0 in
    let s = state_at it.opening.value.state it.seat it.stored in
    let same : it.broker.state ≡ s = given_state g.D.Disk.honest g.D.Disk.images _ c.args.self.now c.self.view_is c.self.invariant.0 whole c.requires.done.1 in
    subst (λ (f : Flushed g.row.D.Denot). g.D.Disk.honest f.disk → f.broken ≡ false → LeavesOnly g.D.Disk.moment g.D.Disk.images_since f.disk c.compact.new.self.disk (λ c. Stands c (state_at f.opening f.seat f.stored))) c.self.view_is
    (λ h w. leaves_state g.D.Disk it.journal.disk c.compact.new.self.disk s it.broker.state same (weaker g.D.Disk it.journal.disk c.compact.new.self.disk _ _ (c.compact.ensures.any_moment (c.self.invariant.1 w).whole h) (λ image is. is.stands)))

pub compact-requires-clause-whole : goal.compact-requires-clause-whole
compact-requires-clause-whole g c = ap (λ (b : BrokerValue). b.broken) (c.self.invariant.0.running (ap (λ (f : Flushed g.row.D.Denot). f.broken) c.self.view_is ∙ c.requires.done.0)).broker

pub compact-requires-clause-stands : goal.compact-requires-clause-stands
compact-requires-clause-stands g c = λ h w.
    let it = c.self.inside in
    let whole : it.broken ≡ false = ap (λ (f : Flushed g.row.D.Denot). f.broken) c.self.view_is ∙ c.requires.done.0 in
    let kept = c.self.invariant.0 in
    let same : it.broker.state ≡ state_at it.opening.value.state it.seat it.stored = given_state g.D.Disk.honest g.D.Disk.images _ c.args.self.now c.self.view_is c.self.invariant.0 whole c.requires.done.1 in
    subst (λ (s : State). StandFor (g.D.Disk.images it.journal.disk) s) (sym same) ((kept.running whole).stands h)

pub returns-in-Ok-clause-compacts : goal.returns-in-Ok-clause-compacts
returns-in-Ok-clause-compacts g c = record {
  alone = let it = c.self.inside in
      let whole : it.broken ≡ false = ap (λ (f : Flushed g.row.D.Denot). f.broken) c.self.view_is ∙ c.requires.done.0 in
      let s = state_at it.opening.value.state it.seat it.stored in
      let same : it.broker.state ≡ s = given_state g.D.Disk.honest g.D.Disk.images _ c.args.self.now c.self.view_is c.self.invariant.0 whole c.requires.done.1 in
      subst (λ (f : Flushed g.row.D.Denot). g.D.Disk.honest f.disk → Each (g.D.Disk.images c.compact.new.self.disk) (HoldsItAlone (size_of c.compact.new.self) (used_of c.compact.new.self) (state_at f.opening f.seat f.stored))) c.self.view_is
      (λ h. subst (λ (s : State). Each (g.D.Disk.images c.compact.new.self.disk) (HoldsItAlone (size_of c.compact.new.self) (used_of c.compact.new.self) s)) same (c.in-Ok.ensures.compacts.alone h));
  compacted_is = let it = c.self.inside in
      let whole : it.broken ≡ false = ap (λ (f : Flushed g.row.D.Denot). f.broken) c.self.view_is ∙ c.requires.done.0 in
      let f = flushed_of it in
      let s = state_at it.opening.value.state it.seat it.stored in
      let same : it.broker.state ≡ s = given_state g.D.Disk.honest g.D.Disk.images _ c.args.self.now c.self.view_is c.self.invariant.0 whole c.requires.done.1 in
      let afresh : used_of c.compact.new.self ≡ used_afresh s = c.in-Ok.ensures.compacts.used ∙ ap (λ (s : State). used_afresh s) same in
      let won : c.saturating_sub-won.result ≡ used_of it.journal - used_afresh s = omega (arith, c.saturating_sub-won.ensures, c.used-before.ensures, c.used.ensures, afresh) in
      (λ i. record f { disk = disk_of c.compact.new.self; size = c.in-Ok.ensures.keeps.size i; used = afresh i; last = record { won = Some (won i); since = it.stored; counted = it.stored; block = it.block } })
      ∙ ap (λ (f : Flushed g.row.D.Denot). compacted f (disk_of c.compact.new.self) (used_afresh (state_at f.opening f.seat f.stored))) c.self.view_is;
}

pub returns-in-Ok-clause-refuses : goal.returns-in-Ok-clause-refuses
returns-in-Ok-clause-refuses g c = record {
  full = λ is. absurd (cc is);
  no_room = λ honest is. absurd (cc is);
}

pub returns-in-Ok-clause-breaks : goal.returns-in-Ok-clause-breaks
returns-in-Ok-clause-breaks g c = record {
  outcome = (c.requires.done.0, (ap (λ (f : Flushed g.row.D.Denot). f.broken) c.self.view_is ∙ c.requires.done.0));
  stops = tt;
  cause = subst (λ (f : Flushed g.row.D.Denot). g.D.Disk.failures c.compact.new.self.disk ≡ g.D.Disk.failures f.disk) c.self.view_is c.in-Ok.ensures.breaks.cause;
}

pub returns-in-Err-clause-compacts : goal.returns-in-Err-clause-compacts
returns-in-Err-clause-compacts g c = tt

pub returns-in-Err-clause-refuses : goal.returns-in-Err-clause-refuses
returns-in-Err-clause-refuses g c = record {
  full = λ is. let it = c.self.inside in
      let whole : it.broken ≡ false = ap (λ (f : Flushed g.row.D.Denot). f.broken) c.self.view_is ∙ c.requires.done.0 in
      let s = state_at it.opening.value.state it.seat it.stored in
      let same : it.broker.state ≡ s = given_state g.D.Disk.honest g.D.Disk.images _ c.args.self.now c.self.view_is c.self.invariant.0 whole c.requires.done.1 in
      let full = only_full c.in-Err.fault (sym c.from.ensures ∙ same_fault c.from.result Full is) in
      let told = c.compact.ensures.breaks.full (c.in-Err.is ∙ ap (λ (fault : AreaFault). Err fault) full) in
      subst (λ (f : Flushed g.row.D.Denot). HasNoRoomFor f.size (state_at f.opening f.seat f.stored) × (c.compact.new.self.disk ≡ f.disk)) c.self.view_is
      (subst (λ (s : State). HasNoRoomFor (size_of it.journal) s) same told.0, ap (λ store. disk_of store) told.1);
  no_room = λ honest is. let it = c.self.inside in
      let whole : it.broken ≡ false = ap (λ (f : Flushed g.row.D.Denot). f.broken) c.self.view_is ∙ c.requires.done.0 in
      let kept = c.self.invariant.0 in
      let s = state_at it.opening.value.state it.seat it.stored in
      let same : it.broker.state ≡ s = given_state g.D.Disk.honest g.D.Disk.images _ c.args.self.now c.self.view_is c.self.invariant.0 whole c.requires.done.1 in
      let full = only_full c.in-Err.fault (sym c.from.ensures ∙ same_fault c.from.result Full is) in
      let told = c.compact.ensures.breaks.full (c.in-Err.is ∙ ap (λ (fault : AreaFault). Err fault) full) in
      let was : g.D.Disk.honest it.journal.disk = subst (λ (f : Flushed g.row.D.Denot). g.D.Disk.honest f.disk) (sym c.self.view_is) honest in
      subst (λ (f : Flushed g.row.D.Denot). HasNoRoomForState (g.D.Disk.content c.compact.new.self.disk) (state_at f.opening f.seat f.stored)) c.self.view_is
      (subst (λ d. HasNoRoomForState (g.D.Disk.content d) s) (sym (ap (λ store. disk_of store) told.1))
      (lacks_room_for_state it.journal.area (g.D.Disk.images it.journal.disk) (g.D.Disk.content it.journal.disk) s (g.met.D.Disk.reads it.journal.disk was)
      (it.journal.sound was (c.self.invariant.1 whole).whole) ((kept.running whole).stands was)
      (subst (λ (s : State). HasNoRoomFor (size_of it.journal) s) same told.0)));
}

pub returns-in-Err-clause-breaks : goal.returns-in-Err-clause-breaks
returns-in-Err-clause-breaks g c = record {
  outcome = let it = c.self.inside in
      let whole : it.broken ≡ false = ap (λ (f : Flushed g.row.D.Denot). f.broken) c.self.view_is ∙ c.requires.done.0 in
      let now = c.args.self.now in
      let new = flushed_of (record it { journal = c.compact.new.self; seat = c.stop.new.seat; broken = true }) in
      let other : c.in-Err.fault ≡ area.Broken → ⊥ = λ is. absurd (cc (c.compact.ensures.breaks.sound (c.in-Err.is ∙ ap (λ (fault : AreaFault). Err fault) is), (c.self.invariant.1 whole).whole)) in
      subst (λ (fault : FlushFault). IsOutcome {X = Unit {0}} now new (Err fault)) (sym c.from.ensures)
      (fell_so c.in-Err.fault now new other (record {
        was = c.requires.done.0;
        now = refl;
        seat = c.stop.ensures ∙ ap (λ (f : Flushed g.row.D.Denot). when_stopped f.seat) c.self.view_is;
        stored = ap (λ (f : Flushed g.row.D.Denot). f.stored) c.self.view_is;
        opening = ap (λ (f : Flushed g.row.D.Denot). f.opening) c.self.view_is;
        left = ap (λ (f : Flushed g.row.D.Denot). f.left) c.self.view_is;
      }));
  stops = (refl, ap (λ (s : FlushSeatValue). s.stopped) c.stop.ensures);
  cause = let it = c.self.inside in
      let before = g.D.Disk.failures it.journal.disk in
      let after = g.D.Disk.failures c.compact.new.self.disk in
      subst (λ (f : Flushed g.row.D.Denot). IsFlushCaused {T = Unit {0}} (g.D.Disk.failures f.disk) after (Err c.from.result)) c.self.view_is
      (subst (λ (fault : FlushFault). IsFlushCaused {T = Unit {0}} before after (Err fault)) (sym c.from.ensures)
      (caused_so (Unit {0}) c.in-Err.fault before after (subst (λ (r : Result (Unit {0}) AreaFault). IsCaused {T = Unit {0}} before after r) c.in-Err.is c.compact.ensures.breaks.cause)));
}

pub returns-in-Ok-clause-lasts : goal.returns-in-Ok-clause-lasts
returns-in-Ok-clause-lasts g c = subst (λ (f : Flushed g.row.D.Denot). Lasts g.D.Disk f.disk c.compact.new.self.disk) c.self.view_is c.compact.ensures.lasts

pub returns-in-Err-clause-lasts : goal.returns-in-Err-clause-lasts
returns-in-Err-clause-lasts g c = subst (λ (f : Flushed g.row.D.Denot). Lasts g.D.Disk f.disk c.compact.new.self.disk) c.self.view_is c.compact.ensures.lasts
