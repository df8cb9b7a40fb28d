-- What is reported if a step of a script fails, and what it leaves of the script's disk.
use Rattle.std.specs.Prelude.{◌≡◌, ◌⊎◌, ◌++◌, ◌∷◌, List, ℕ, Bool, Option, codes, false}
use Rattle.disk_core.specs.Memory.{Memory}
use Rattle.recover_core.specs.Told.{IsOpenTold, IsCausedBy as IsOpenCausedBy}
use Rattle.recover_core.specs.declared.faults.OpenFault.{OpenFault}
use Rattle.flush_core.specs.declared.faults.FlushFault.{FlushFault}
use Rattle.flush_core.specs.declared.faults.FlushFault.TheVariants as flush
use Rattle.engine_core.specs.Faults.{IsCausedBy}
use Rattle.script_text.specs.ScriptLines.{IsCrash}
use Rattle.engine_core.specs.Queues.{IsAny, LacksRoom}
use Rattle.engine_core.specs.Scripts.{HasFailed, IsCalm, IsLine, RunsFlush, disk_of}
use Rattle.engine_core.specs.declared.fault.QueueFault.{QueueFault}
use Rattle.engine_core.specs.declared.fault.QueueFault.TheVariants as queue
use Rattle.engine_core.specs.declared.script.Script.{Script}
use Rattle.engine_core.specs.declared.script.Script.TheVariants.{Running}

-- Of a step while the disk runs, from the disk's failures before it, whether the journal is durable after it, and the disk's
-- failures then. It opens no disk. The disk failed exactly if that is reported. If commands are not stored, whatever the
-- reason, the journal takes nothing more.
abbrev pub IsStepTold : ℕ → Bool → ℕ → QueueFault → Type 0
IsStepTold before durable now (queue.Opening fault) = ⊥
IsStepTold before durable now (queue.Storing fault) = (durable ≡ false) × IsCausedBy before now fault
IsStepTold before durable now (queue.Memory refused) = now ≡ before
IsStepTold before durable now queue.CountTooLarge = now ≡ before

-- of an output that does not leave: memory was refused, or the journal takes nothing more
abbrev pub IsPrintTold : Bool → QueueFault → Type 0
IsPrintTold durable (queue.Memory refused) = Unit {0}
IsPrintTold durable (queue.Storing flush.Broken) = durable ≡ false
IsPrintTold durable _ = ⊥

-- of a flush in which the disk stops: it is not reported that the disk failed
abbrev pub IsCrashTold : QueueFault → Type 0
IsCrashTold (queue.Storing flush.Device) = ⊥
IsCrashTold (queue.Storing fault) = Unit {0}
IsCrashTold _ = ⊥

-- A disk is not opened: what is reported of its content is so. Its calls failed, between then and now, exactly if that is reported.
pub record IsNotOpened (disk : Memory) (fault : OpenFault) (now : Memory) : Type 0 where
  pub told : IsOpenTold fault disk.content
  pub cause : IsOpenCausedBy fault disk.failures now.failures

-- of the script's disk that is to be opened, with what is left of it: that it is not opened, that memory was refused, or that a
-- step failed before
abbrev pub IsOpeningTold : Script → Memory → QueueFault → Type 0
IsOpeningTold s now (queue.Memory refused) = IsCalm s now
IsOpeningTold s now (queue.Opening fault) = IsNotOpened (disk_of s) fault now
IsOpeningTold s now (queue.Storing flush.Broken) = HasFailed s × IsCalm s now
IsOpeningTold s now _ = ⊥

-- Why the commands of a line are not stored. The disk has no room for them, or a step failed before, or the ring did not take what
-- a flush handed to it.
abbrev pub IsReason : FlushFault → Script → List ℕ → Memory → Type 0
IsReason flush.Full s line now = RunsFlush (LacksRoom now.content) s line
IsReason flush.Broken s line now = HasFailed s ⊎ RunsFlush IsAny s line
IsReason fault s line now = Unit {0}

-- The disk failed, between then and now, exactly if that is reported. Of a `crash`, which has it fail, that is never reported.
abbrev pub IsDiskFault : FlushFault → Script → List ℕ → Memory → Type 0
IsDiskFault fault s line now =
    IsCausedBy (disk_of s).failures now.failures fault
    ⊎ ((k : ℕ) × (fill : Option ℕ) × IsCrash line k fill × IsCrashTold (queue.Storing fault))

-- the commands of a line are not stored, which leaves this disk
pub record IsNotStored (fault : FlushFault) (s : Script) (line : List ℕ) (now : Memory) : Type 0 where
  pub reason : IsReason fault s line now
  pub cause : IsDiskFault fault s line now

-- Of a line, with the disk that it leaves: only `open` reports a disk that is not opened.
abbrev pub IsLineTold : Script → List ℕ → Memory → QueueFault → Type 0
IsLineTold s line now (queue.Opening fault) = (line ≡ codes "open") × IsNotOpened (disk_of s) fault now
IsLineTold s line now (queue.Storing fault) = IsNotStored fault s line now
IsLineTold s line now _ = IsCalm s now

-- bytes with a line at their front whose commands are not stored, which leaves this disk
abbrev pub HasLineNotStored : Script → FlushFault → List ℕ → Memory → Type 0
HasLineNotStored s fault bytes now = (line : List ℕ) × (behind : List ℕ) × (bytes ≡ line ++ 10 ∷ behind) × IsLine line × IsNotStored fault s line now

-- bytes with the line `open` at their front, which does not open the disk, and leaves it so
abbrev pub HasLineNotOpened : Script → OpenFault → List ℕ → Memory → Type 0
HasLineNotOpened s fault bytes now = (behind : List ℕ) × (bytes ≡ codes "open" ++ 10 ∷ behind) × IsNotOpened (disk_of s) fault now
