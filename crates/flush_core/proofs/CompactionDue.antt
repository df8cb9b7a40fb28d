-- The journal may be compacted.
use Rattle.std.proofs.Common.{◌≡◌, ◌≤◌, ℕ, List, Result, Ok, Err, OnOk, false, sym, ◌∙◌, ap, subst, arith, inl}
use Rattle.std.proofs.lemmas.Result.{on_ok_weaker}
use Rattle.disk_core.specs.declared.disk.Disk.{Ghosts}
use Rattle.disk_core.specs.Moments.{LeavesOnly}
use Rattle.command_core.specs.Commands.{CommandValue}
use Rattle.recover_core.specs.Standing.{Stands}
use Rattle.flush_core.specs.declared.faults.FlushFault.{FlushFault}
use Rattle.flush_core.specs.Backlogs.{IsLight, RepeatsNothing, backlog, cost_of, most_cost}
use Rattle.flush_core.specs.Batches.{between, state_at}
use Rattle.flush_core.specs.FlusherCalls.{CompactsIfDue, FlushCompacts, MayCompact, is_compacted}
use Rattle.flush_core.specs.Flusher.{Flushed, IsFlusher, state_stored}
use Rattle.flush_core.proofs.BatchFitsThen.{stays_so}
use Rattle.flush_core.proofs.TakenCommands.{between_none}

-- nothing is to be repeated, so it is less than may be
pub none_is_light : {D : Type 0} (f : Flushed D) → f.last.counted ≡ f.stored → IsLight f
none_is_light f same =
    let nothing : cost_of (state_at f.opening f.seat f.last.counted) (between f.seat f.last.counted f.stored) ≡ 0 =
    subst (λ (n : ℕ). cost_of (state_at f.opening f.seat f.last.counted) (between f.seat f.last.counted n) ≡ 0) same
    (ap (λ (l : List CommandValue). cost_of (state_at f.opening f.seat f.last.counted) l) (between_none f.seat f.last.counted)) in
    omega (arith, nothing)

module _ {D : Type 0} (disk : Ghosts D) (old new : Flushed D) where
  -- the journal was compacted
  pub may_so : (result : Result (Unit {0}) FlushFault) → OnOk result (FlushCompacts disk old new) → OnOk result (MayCompact disk old new)
  may_so result did = on_ok_weaker result (λ (it : FlushCompacts disk old new). is_compacted it) did

  pub none_so : (result : Result (Unit {0}) FlushFault) → OnOk result (FlushCompacts disk old new) → OnOk result (RepeatsNothing new)
  none_so result did =
      on_ok_weaker result
      (λ (it : FlushCompacts disk old new). inl (ap (λ (f : Flushed D). f.last.since) it.compacted_is ∙ sym (ap (λ (f : Flushed D). f.stored) it.compacted_is))) did

  pub counted_so : (result : Result (Unit {0}) FlushFault) → OnOk result (FlushCompacts disk old new) → OnOk result (new.last.counted ≡ new.stored)
  counted_so result did =
      on_ok_weaker result
      (λ (it : FlushCompacts disk old new). ap (λ (f : Flushed D). f.last.counted) it.compacted_is ∙ sym (ap (λ (f : Flushed D). f.stored) it.compacted_is)) did

  pub due_so : (result : Result (Unit {0}) FlushFault) → OnOk result (MayCompact disk old new) → OnOk result (new.last.counted ≡ new.stored) → most_cost (state_stored old) ≤ backlog old
      → OnOk result (CompactsIfDue disk old new)
  due_so (Ok x) may counted due = record { may = may; light = none_is_light new counted; needed = λ light. absurd (omega (arith, due, light)) }
  due_so (Err fault) may counted due = tt

  -- the disk is as it was
  pub moments_same : new.disk ≡ old.disk → IsFlusher disk.honest disk.images old → ((c : List ℕ) → disk.images_since old.disk (disk.moment old.disk) c → disk.images old.disk c)
      → disk.honest old.disk → old.broken ≡ false → LeavesOnly disk.moment disk.images_since old.disk new.disk (λ c. Stands c (state_stored old))
  moments_same same kept only honest whole =
      subst (λ (d : D). LeavesOnly disk.moment disk.images_since old.disk d (λ c. Stands c (state_stored old))) (sym same) (stays_so disk old kept whole only honest)
