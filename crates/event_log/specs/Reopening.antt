-- When the journal of a server that has ended is opened again. Pauses and runs are in seconds.
use Rattle.std.specs.Prelude.{◌≡◌, ◌*◌, ℕ, Option, None, Some, cond, min, nat_le}
use Rattle.area_core.specs.declared.faults.AreaFault.TheVariants as area
use Rattle.flush_core.specs.declared.faults.FlushFault.TheVariants.{Full}
use Rattle.recover_core.specs.declared.faults.OpenFault.TheVariants.{Area}
use Rattle.event_log.specs.declared.fault.ServeFault.{ServeFault}
use Rattle.event_log.specs.declared.fault.ServeFault.TheVariants.{Flushing, Opening}
use Rattle.event_log.specs.declared.fault.Reopening.{Reopening}
use Rattle.event_log.specs.declared.fault.TheConstants.{LONGEST, SHORTEST}

-- the journal of a running server is full
abbrev pub IsFull : ServeFault → Type 0
IsFull fault = fault ≡ Flushing Full

-- what a journal holds is too much for a start
abbrev pub IsTooFull : ServeFault → Type 0
IsTooFull fault = fault ≡ Opening (Area area.Full)

-- the pause after a server that ran for so long: the shortest if that was as long as the longest pause
abbrev pub pause_after : (next ran : ℕ) → ℕ
pause_after next ran = cond (nat_le LONGEST ran) SHORTEST next

-- A full journal is opened again after that pause, and the next one is twice as long, or the longest. After another fault it is not.
pub record Reopens (old new : Reopening) (fault : ServeFault) (ran : ℕ) (result : Option ℕ) : Type 0 where
  pub pause : IsFull fault → result ≡ Some (pause_after old.pause ran)
  pub next : IsFull fault → new.pause ≡ min (pause_after old.pause ran * 2) LONGEST
  pub other : (IsFull fault → ⊥) → (result ≡ None) × (new ≡ old)
