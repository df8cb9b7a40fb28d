-- What a step that is refused reports: a flush, a command, or the acts of a connection.
use Rattle.std.specs.Prelude.{◌≡◌, ℕ, true}
use Rattle.session_core.specs.declared.session.Act.{Act}
use Rattle.flush_core.specs.declared.faults.FlushFault.TheVariants as flush
use Rattle.engine_core.specs.Queues.{CountsTooFar, IsAny, IsFlush, IsTooFar, LacksRoom, QueueOnDisk, QueueValue, is_full}
use Rattle.engine_core.specs.Running.{ScriptValue, on_disk}
use Rattle.engine_core.specs.StepFaults.{IsStepTold}
use Rattle.engine_core.specs.declared.fault.QueueFault.{QueueFault}
use Rattle.engine_core.specs.declared.fault.QueueFault.TheVariants as queue
use Rattle.engine_core.specs.declared.script.Script.{Script}
use Rattle.engine_core.specs.declared.script.Script.TheVariants.{Running}

-- A step is refused. The count is reported as too large only if the step goes too far. The journal is reported as full only if
-- the step flushes what the disk has no room for. It is reported as broken only if it was before, or if the step flushes. The
-- disk failed exactly if that is reported.
pub record RefusesStep (GoesTooFar : Type 0) (Flushes : (QueueValue → Type 0) → Type 0) (old new : QueueOnDisk) (fault : QueueFault) : Type 0 where
  pub err : fault ≡ queue.CountTooLarge → GoesTooFar
  pub full : fault ≡ queue.Storing flush.Full → Flushes (LacksRoom new.disk.content)
  pub broken : fault ≡ queue.Storing flush.Broken → old.queue.durable ≡ true → Flushes IsAny
  pub told : IsStepTold old.disk.failures new.queue.durable new.disk.failures fault

-- a flush is refused, which never goes too far
abbrev pub RefusesFlush : QueueOnDisk → QueueOnDisk → QueueFault → Type 0
RefusesFlush old new fault = RefusesStep ⊥ (λ Such. Such old.queue) old new fault

-- a command of a connection is refused
abbrev pub RefusesCommand : ℕ → QueueOnDisk → QueueOnDisk → QueueFault → Type 0
RefusesCommand connection old new fault = RefusesStep (CountsTooFar connection old.queue) (λ Such. (is_full connection old.queue ≡ true) × Such old.queue) old new fault

-- acts are refused, of which one is such an act
abbrev pub RefusesActs : ((ℕ → QueueValue → Act → Type 0) → Type 0) → QueueOnDisk → QueueOnDisk → QueueFault → Type 0
RefusesActs Comes old new fault = RefusesStep (Comes IsTooFar) (λ Such. Comes (IsFlush Such)) old new fault

-- a step of a script whose disk runs and goes on to run is refused
abbrev pub RefusesRunning : (ScriptValue → QueueOnDisk → QueueFault → Type 0) → Script → Script → QueueFault → Type 0
RefusesRunning Refuses (Running s) (Running t) fault = Refuses s (on_disk t) fault
RefusesRunning Refuses _ _ fault = ⊥
