-- The flusher's faults by the store's.
use Rattle.std.proofs.Common.{◌≡◌, ℕ, Result, Ok, Err, refl, ap, subst}
use Rattle.std.specs.Prelude.{IsErrOf}
use Rattle.area_core.specs.Steps.{IfMemory as IfAreaMemory, IsCaused}
use Rattle.area_core.specs.declared.faults.AreaFault.{AreaFault}
use Rattle.area_core.specs.declared.faults.AreaFault.TheVariants as area
use Rattle.flush_core.specs.Faults.{IfMemory, IsFlushCaused, IsMemory, NeedsNoDisk, of_area}
use Rattle.flush_core.specs.Flusher.{Flushed}
use Rattle.flush_core.specs.FlusherOutcomes.{Falls, IsOutcome}
use Rattle.flush_core.specs.declared.faults.FlushFault.{FlushFault}
use Rattle.flush_core.specs.declared.faults.FlushFault.TheVariants.{Device, Full, Broken, Memory}

abbrev fault_of : {T : Type 0} → Result T FlushFault → FlushFault
fault_of (Ok _) = Broken
fault_of (Err fault) = fault

pub same_fault : {T : Type 0} (one other : FlushFault) → IsErrOf {T = T} (Err one) other → one ≡ other
same_fault one other is = ap fault_of is

pub only_full : (fault : AreaFault) → of_area fault ≡ Full → fault ≡ area.Full
only_full area.Device is = absurd (cc is)
only_full area.Full is = refl
only_full area.Broken is = absurd (cc is)
only_full (area.Memory refused) is = absurd (cc is)

pub caused_so : (T : Type 0) (fault : AreaFault) (before now : ℕ) → IsCaused {T = T} before now (Err fault) → IsFlushCaused {T = Unit {0}} before now (Err (of_area fault))
caused_so T area.Device before now is = is
caused_so T area.Full before now is = is
caused_so T area.Broken before now is = is
caused_so T (area.Memory refused) before now is = is

pub untouched_so : (T : Type 0) (fault : AreaFault) (P : Type 0) → IfAreaMemory {T = T} (Err fault) P → IfMemory {T = Unit {0}} (Err (of_area fault)) P
untouched_so T area.Device P is = tt
untouched_so T area.Full P is = tt
untouched_so T area.Broken P is = tt
untouched_so T (area.Memory refused) P is = is

pub fell_so : {D : Type 0} (fault : AreaFault) (old new : Flushed D) → (fault ≡ area.Broken → ⊥) → Falls old new → IsOutcome {X = Unit {0}} old new (Err (of_area fault))
fell_so area.Device old new whole fell = fell
fell_so area.Full old new whole fell = fell
fell_so area.Broken old new whole fell = absurd (whole refl)
fell_so (area.Memory refused) old new whole fell = fell

-- a step that failed for want of memory alone
pub fell_for_memory : {D : Type 0} (fault : FlushFault) (old new : Flushed D) → IsMemory {T = Unit {0}} (Err fault) → Falls old new → IsOutcome {X = Unit {0}} old new (Err fault)
fell_for_memory Device old new want fell = fell
fell_for_memory Full old new want fell = fell
fell_for_memory Broken old new want fell = absurd want
fell_for_memory (Memory refused) old new want fell = fell

pub needs_memory : (fault : FlushFault) → IsMemory {T = Unit {0}} (Err fault) → NeedsNoDisk {T = Unit {0}} (Err fault)
needs_memory Device want = want
needs_memory Full want = want
needs_memory Broken want = tt
needs_memory (Memory refused) want = tt

-- a step that reaches no disk has failed, and no call of the disk has
pub caused_none : (X Y : Type 0) (fault : FlushFault) (before now : ℕ) → NeedsNoDisk {T = X} (Err fault) → now ≡ before → IsFlushCaused {T = Y} before now (Err fault)
caused_none X Y Device before now none same = absurd none
caused_none X Y Full before now none same = absurd none
caused_none X Y Broken before now none same = same
caused_none X Y (Memory refused) before now none same = same

-- nor is there too little room
pub never_full : (X Y : Type 0) (fault : FlushFault) → NeedsNoDisk {T = X} (Err fault) → IsErrOf {T = Y} (Err fault) Full → ⊥
never_full X Y Device none is = none
never_full X Y Full none is = none
never_full X Y Broken none is = absurd (cc is)
never_full X Y (Memory refused) none is = absurd (cc is)

-- the cause is the same where another answer was due
pub caused_as : (X Y : Type 0) (fault : FlushFault) (before now : ℕ) → IsFlushCaused {T = X} before now (Err fault) → IsFlushCaused {T = Y} before now (Err fault)
caused_as X Y Device before now cause = cause
caused_as X Y Full before now cause = cause
caused_as X Y Broken before now cause = cause
caused_as X Y (Memory refused) before now cause = cause

pub caused_from : {T : Type 0} (r : Result T AreaFault) (fault : AreaFault) (before now : ℕ) → r ≡ Err fault → IsCaused before now r → IsFlushCaused {T = Unit {0}} before now (Err (of_area fault))
caused_from {T} r fault before now is cause = caused_so T fault before now (subst (λ (r : Result T AreaFault). IsCaused before now r) is cause)

pub untouched_from : {T : Type 0} (r : Result T AreaFault) (fault : AreaFault) (P : Type 0) → r ≡ Err fault → IfAreaMemory r P → IfMemory {T = Unit {0}} (Err (of_area fault)) P
untouched_from {T} r fault P is held = untouched_so T fault P (subst (λ (r : Result T AreaFault). IfAreaMemory r P) is held)
