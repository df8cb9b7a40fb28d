use Rattle.std.specs.Prelude.{◌≡◌, ◌≢◌, ◌+◌, ◌<◌, ◌≤◌, ◌⊎◌, List, [], ◌++◌, ℕ, Bool, true, Option, length}
use Rattle.std.specs.Io.KnownBytes.{Appends, Consumes, IsAtEnd}
use Rattle.disk_core.specs.Memory.{Memory}
use Rattle.broker_core.specs.States.{State}
use Rattle.engine_core.specs.Running.{beginning}
use Rattle.engine_core.specs.Scripts.{IsCalm, IsOpenedAs, Takes, IsLine, HasNoLf, HasNoLine, HasLineTooFar, Tries, disk_of}
use Rattle.engine_core.specs.StepFaults.{HasLineNotOpened, HasLineNotStored, IsNotOpened}
use Rattle.engine_core.specs.declared.fault.ScriptFault.{ScriptFault}
use Rattle.engine_core.specs.declared.fault.ScriptFault.TheVariants.{NotUnderstood, CountTooLarge, Opening, Storing, Output}
use Rattle.engine_core.specs.declared.fault.ScriptFault.TheVariants as faults
use Rattle.engine_core.specs.declared.script.Script.{Script}
use Rattle.engine_core.specs.declared.script.Script.TheVariants.{Running}
use Rattle.engine_core.specs.declared.so_far.Run.{Run}

-- a run before the first read, over this disk
pub record IsBegun (disk : Memory) (run : Run) : Type 0 where
  pub start : State
  pub first : Memory
  pub opened : IsOpenedAs disk start first
  pub script : run.script ≡ Running (beginning start first)
  pub begun : run.begun.items ≡ []
  pub lines : run.lines ≡ 0

-- bytes lead a run on: the lines that end in them print, and what follows begins a line
pub record Goes (old : Run) (bytes : List ℕ) (new : Run) (before after : Option (List ℕ)) : Type 0 where
  pub lines : List (List ℕ)
  pub printed : List ℕ
  pub takes : Takes old.script old.begun.items bytes lines printed new.script new.begun.items
  pub begun : IsLine new.begun.items
  pub count : new.lines ≡ old.lines + length lines
  pub few : length lines ≤ length bytes
  pub writes : Appends before after printed

-- bytes lead a run on as far as these lines, and what they print is written
pub record Halts (old : Run) (bytes : List ℕ) (lines : List (List ℕ)) (rest : List ℕ) (before after : Option (List ℕ)) : Type 0 where
  pub printed : List ℕ
  pub end : Script
  pub takes : Takes old.script old.begun.items bytes lines printed end rest
  pub writes : Appends before after printed

-- why a line of these is not done, from this script on, and what that leaves of its disk
abbrev pub IsCause : ScriptFault → Script → List ℕ → Memory → Type 0
IsCause (NotUnderstood k) s rest disk = HasNoLine s rest × (disk ≡ disk_of s)
IsCause CountTooLarge s rest disk = HasLineTooFar s rest × IsCalm s disk
IsCause (Opening fault) s rest disk = HasLineNotOpened s fault rest disk
IsCause (Storing fault) s rest disk = HasLineNotStored s fault rest disk
IsCause fault s rest disk = IsCalm s disk

-- the number of the line that is reported is the next one's
abbrev pub IsNext : ScriptFault → ℕ → Type 0
IsNext (NotUnderstood k) lines = k ≡ lines + 1
IsNext fault lines = Unit {0}

-- A fault stops a run within bytes, which leaves this disk. What is written is what the lines before print, and, if the writer
-- fails, perhaps the beginning of what the next line prints, but not all of it.
abbrev pub StopsIn : ScriptFault → Run → List ℕ → Memory → Option (List ℕ) → Option (List ℕ) → Type 0
StopsIn Output old bytes disk before after = Tries old.script old.begun.items bytes disk before after
StopsIn fault old bytes disk before after =
    (lines : List (List ℕ)) × (rest : List ℕ) × (h : Halts old bytes lines rest before after) × IsNext fault (old.lines + length lines) × IsCause fault h.end rest disk

-- a line gets longer than a line may be, or memory is refused
abbrev pub IsTooLong : ScriptFault → Run → List ℕ → Type 0
IsTooLong (NotUnderstood k) old bytes = (k ≡ old.lines + 1) × (1048576 < length (old.begun.items ++ bytes))
IsTooLong (faults.Memory refused) old bytes = Unit {0}
IsTooLong _ old bytes = ⊥

-- reads lead a run on by what they give; at the end nothing has begun
pub record Turned (end : Bool) (old new : Run) (unread left before after : Option (List ℕ)) : Type 0 where
  pub bytes : List ℕ
  pub reads : Consumes unread left bytes
  pub goes : Goes old bytes new before after
  pub at_end : end ≡ true → IsAtEnd left × (new.begun.items ≡ [])

-- the script ends within a line
abbrev pub EndsWithin : ScriptFault → Run → List ℕ → Memory → Option (List ℕ) → Option (List ℕ) → Option (List ℕ) → Type 0
EndsWithin (NotUnderstood k) old bytes disk left before after =
    (new : Run) × Goes old bytes new before after × IsAtEnd left × (new.begun.items ≢ []) × (k ≡ new.lines + 1) × (disk ≡ disk_of new.script)
EndsWithin _ old bytes disk left before after = ⊥

-- a fault stops a run that has read these bytes, which leaves this disk
pub record Stopped (fault : ScriptFault) (old : Run) (disk : Memory) (unread left before after : Option (List ℕ)) : Type 0 where
  pub bytes : List ℕ
  pub reads : Consumes unread left bytes
  pub stops : StopsIn fault old bytes disk before after ⊎ EndsWithin fault old bytes disk left before after

-- what was read begins a script from this state on, over this disk: these lines, and what they print is written
pub record Begins (start : State) (first : Memory) (lines : List (List ℕ)) (rest : List ℕ) (unread left before after : Option (List ℕ)) : Type 0 where
  pub input : List ℕ
  pub printed : List ℕ
  pub end : Script
  pub reads : Consumes unread left input
  pub takes : Takes (Running (beginning start first)) [] input lines printed end rest
  pub writes : Appends before after printed

-- the script ends within a line, and its disk is as the lines before have left it
abbrev pub EndsBefore : ScriptFault → Script → List ℕ → Memory → Option (List ℕ) → Type 0
EndsBefore (NotUnderstood k) s rest disk left = IsAtEnd left × (rest ≢ []) × HasNoLf rest × (disk ≡ disk_of s)
EndsBefore fault s rest disk left = ⊥

-- A fault stops a script that began with this state over this disk, which comes back as that one. What is written is what the
-- lines before print, and, if the writer fails, perhaps the beginning of what the next line prints, but not all of it. A line is
-- reported only if it is none: it has too many bytes, says nothing that is understood, or ends the script with no LF. The
-- commands are too many only if the next line is one that runs too far. A disk is not opened only if the next line is `open`,
-- and what is reported of the disk is so. The disk failed, within the next line, exactly if that is reported. The journal is
-- full only if the next line flushes what the disk, as it came back, has no room for. It is broken only if a step failed before,
-- or if the next line flushes. The writer fails only if the next line prints.
abbrev pub Stops : State → Memory → ScriptFault → Memory → Option (List ℕ) → Option (List ℕ) → Option (List ℕ) → Option (List ℕ) → Type 0
Stops start first Output disk unread left before after =
    (input : List ℕ) × Consumes unread left input × Tries (Running (beginning start first)) [] input disk before after
Stops start first fault disk unread left before after =
    (lines : List (List ℕ)) × (rest : List ℕ) × (b : Begins start first lines rest unread left before after) × IsNext fault (length lines)
    × (IsCause fault b.end rest disk ⊎ EndsBefore fault b.end rest disk left)

-- memory was refused, or the disk was not opened, and what is reported of it is so
abbrev pub IsToldAtOnce : ScriptFault → Memory → Memory → Type 0
IsToldAtOnce (faults.Memory refused) disk now = now ≡ disk
IsToldAtOnce (Opening fault) disk now = IsNotOpened disk fault now
IsToldAtOnce _ disk now = ⊥

-- a fault comes before anything is read or written, and the disk comes back as that one
pub record StopsAtOnce (disk : Memory) (fault : ScriptFault) (now : Memory) (unread left before after : Option (List ℕ)) : Type 0 where
  pub told : IsToldAtOnce fault disk now
  pub same_unread : left ≡ unread
  pub same_written : after ≡ before

-- a fault stops a script over a disk, which comes back as that one: at once, or once the disk was opened
abbrev pub StopsOver : Memory → ScriptFault → Memory → Option (List ℕ) → Option (List ℕ) → Option (List ℕ) → Option (List ℕ) → Type 0
StopsOver disk fault now unread left before after =
    StopsAtOnce disk fault now unread left before after
    ⊎ ((start : State) × (first : Memory) × IsOpenedAs disk start first × Stops start first fault now unread left before after)
