-- What a step tells that is refused, from what its part tells.
use Rattle.std.proofs.Common.{◌≡◌, ◌++◌, ◌∷◌, ◌∙◌, List, ℕ, true, refl, subst}
use Rattle.std.specs.List.{fold}
use Rattle.session_core.specs.declared.session.Act.{Act}
use Rattle.engine_core.specs.OfQueue.{IsMemory}
use Rattle.engine_core.specs.Queues.{ComeTo, IsAny, IsFlush, IsTooFar, LacksRoom, Progress, QueueOnDisk, QueueValue, acted}
use Rattle.engine_core.specs.Refusals.{RefusesActs, RefusesStep}
use Rattle.engine_core.specs.StepFaults.{IsStepTold}
use Rattle.engine_core.specs.declared.fault.QueueFault.{QueueFault}
use Rattle.engine_core.specs.declared.fault.QueueFault.TheVariants as queue
use Rattle.engine_core.proofs.Counting.{come_to}

-- a part of a step, before which nothing failed
pub refuses_from : (Far Farther : Type 0) (Flushes Further : (QueueValue → Type 0) → Type 0) (first old new : QueueOnDisk) (fault : QueueFault)
    → old.queue.durable ≡ first.queue.durable → old.disk.failures ≡ first.disk.failures
    → (Far → Farther) → ((Such : QueueValue → Type 0) → Flushes Such → Further Such) → RefusesStep Far Flushes old new fault → RefusesStep Farther Further first new fault
refuses_from Far Farther Flushes Further first old new fault durable calm far further refuses = record {
  err = λ e. far (refuses.err e);
  full = λ e. further (LacksRoom new.disk.content) (refuses.full e);
  broken = λ e was. further IsAny (refuses.broken e (durable ∙ was));
  told = subst (λ n. IsStepTold n new.queue.durable new.disk.failures fault) calm refuses.told;
}

-- memory was refused
pub refuses_memory : (Far : Type 0) (Flushes : (QueueValue → Type 0) → Type 0) (old new : QueueOnDisk) (fault : QueueFault) → IsMemory fault → new.disk.failures ≡ old.disk.failures → RefusesStep Far Flushes old new fault
refuses_memory Far Flushes old new (queue.Memory refused) is calm = record { err = λ e. absurd cc; full = λ e. absurd cc; broken = λ e was. absurd cc; told = calm }
refuses_memory Far Flushes old new queue.CountTooLarge is calm = absurd is
refuses_memory Far Flushes old new (queue.Opening fault) is calm = absurd is
refuses_memory Far Flushes old new (queue.Storing fault) is calm = absurd is

-- acts that come to such an act if others do
pub refuses_acts : (Comes Goes : (ℕ → QueueValue → Act → Type 0) → Type 0) (old new : QueueOnDisk) (fault : QueueFault) → ((Such : ℕ → QueueValue → Act → Type 0) → Comes Such → Goes Such)
    → RefusesActs Comes old new fault → RefusesActs Goes old new fault
refuses_acts Comes Goes old new fault goes =
    refuses_from (Comes IsTooFar) (Goes IsTooFar) (λ Such. Comes (IsFlush Such)) (λ Such. Goes (IsFlush Such)) old old new fault refl refl (goes IsTooFar) (λ Such. goes (IsFlush Such))

-- one of a connection's acts, after those before it
pub refuses_one : (connection : ℕ) (start now : Progress) (acts before rest behind : List Act) (act : Act) (first old new : QueueOnDisk) (fault : QueueFault)
    → acts ≡ before ++ rest → rest ≡ act ∷ behind → now ≡ fold (acted connection) start before
    → old.queue.durable ≡ first.queue.durable → old.disk.failures ≡ first.disk.failures
    → RefusesActs (λ Such. Such connection now.queue act) old new fault → RefusesActs (λ Such. ComeTo connection Such start acts) first new fault
refuses_one connection start now acts before rest behind act first old new fault whole at done durable calm =
    refuses_from (IsTooFar connection now.queue act) (ComeTo connection IsTooFar start acts) (λ Such. IsFlush Such connection now.queue act) (λ Such. ComeTo connection (IsFlush Such) start acts) first old new fault durable calm
    (come_to IsTooFar connection start now acts before rest behind act whole at done)
    (λ Such. come_to (IsFlush Such) connection start now acts before rest behind act whole at done)
