use Rattle.std.proofs.Common.{ℕ, ap, false, subst, sym, ◌∙◌, ◌≡◌}
use Rattle.flush_core.specs.Faults.{IsFlushCaused}
use Rattle.flush_core.specs.Flusher.{Flushed}
use Rattle.flush_core.proofs.StoreFaults.{caused_as}
use Rattle.engine_core.specs.Flushes.{Flushes}
use Rattle.engine_core.proofs.Rounds.{failed, more, passed}
use Rattle.engine_core.proofs.flushing.flush.Goals as goal

pub returns-in-Err-clause-flushes : goal.returns-in-Err-clause-flushes
returns-in-Err-clause-flushes g c = failed ℕ _ _ _ c.in-Err.ensures.breaks.outcome

pub returns-in-Err-clause-light : goal.returns-in-Err-clause-light
returns-in-Err-clause-light g c = tt

pub returns-in-Err-clause-cause : goal.returns-in-Err-clause-cause
returns-in-Err-clause-cause g c = caused_as ℕ (Unit {0}) c.in-Err.fault _ _ c.in-Err.ensures.breaks.cause

pub returns-in-Err-clause-stops : goal.returns-in-Err-clause-stops
returns-in-Err-clause-stops g c = c.in-Err.ensures.breaks.stops

pub compact_if_due-requires-clause-ring : goal.compact_if_due-requires-clause-ring
compact_if_due-requires-clause-ring g c =
    let did = c.in-Ok.ensures in
    ap (λ (f : Flushed g.row.D.Denot). f.seat.ring) c.wait_for_readers.ensures
    ∙ ((passed g.D.Disk _ _ _ _ _ c.mark-before.ensures.kept did.breaks.outcome.0 did.turns.turned did.turns.stores c.drop_left.ensures c.tell_compaction.ensures).ring ∙ c.requires.ring)

pub compact_if_due-requires-clause-executed : goal.compact_if_due-requires-clause-executed
compact_if_due-requires-clause-executed g c =
    let did = c.in-Ok.ensures in
    subst (λ (f : Flushed g.row.D.Denot). f.broken ≡ false → f.executed ≡ f.stored) (sym c.wait_for_readers.ensures)
    ((passed g.D.Disk _ _ _ _ _ c.mark-before.ensures.kept did.breaks.outcome.0 did.turns.turned did.turns.stores c.drop_left.ensures c.tell_compaction.ensures).executed c.requires.executed)

pub returns-in-Ok-clause-flushes : goal.returns-in-Ok-clause-flushes
returns-in-Ok-clause-flushes g c =
    let did = c.in-Ok.ensures in
    more _ _ _ (passed g.D.Disk _ _ _ _ _ c.mark-before.ensures.kept did.breaks.outcome.0 did.turns.turned did.turns.stores c.drop_left.ensures c.tell_compaction.ensures)
    (subst (λ (f : Flushed g.row.D.Denot). Flushes f c.compact_if_due.new.flusher) c.wait_for_readers.ensures c.compact_if_due.ensures.flushes)

pub returns-in-Ok-clause-light : goal.returns-in-Ok-clause-light
returns-in-Ok-clause-light g c = c.compact_if_due.ensures.light

pub returns-in-Ok-clause-stops : goal.returns-in-Ok-clause-stops
returns-in-Ok-clause-stops g c = c.compact_if_due.ensures.stops

pub returns-in-Ok-clause-cause : goal.returns-in-Ok-clause-cause
returns-in-Ok-clause-cause g c =
    let calm : g.D.Disk.failures c.wait_for_readers.new.flusher.disk ≡ g.D.Disk.failures c.args.flusher.now.disk =
    ap (λ (f : Flushed g.row.D.Denot). g.D.Disk.failures f.disk) (c.wait_for_readers.ensures ∙ c.tell_compaction.ensures)
    ∙ (ap (λ (f : Flushed g.row.D.Denot). g.D.Disk.failures f.disk) c.drop_left.ensures ∙ c.in-Ok.ensures.breaks.cause) in
    subst (λ (n : ℕ). IsFlushCaused n (g.D.Disk.failures c.compact_if_due.new.flusher.disk) c.compact_if_due.result) calm c.compact_if_due.ensures.cause
