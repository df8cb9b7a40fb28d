-- What a line tells that is not done, from what its step tells.
use Rattle.std.proofs.Common.{◌≡◌, ◌⊎◌, List, ℕ, Bool, true, false, Option, Result, Ok, Err, IfErr, codes, refl, ap, ◌∙◌, subst, inl, inr}
use Rattle.disk_core.specs.Memory.{Memory}
use Rattle.flush_core.specs.declared.faults.FlushFault.{FlushFault}
use Rattle.flush_core.specs.declared.faults.FlushFault.TheVariants as flush
use Rattle.script_text.specs.ScriptLines.{IsCrash}
use Rattle.session_core.specs.declared.session.Act.{Act}
use Rattle.engine_core.specs.Queues.{IsAny, IsFlush, IsTooFar, LacksRoom, QueueValue}
use Rattle.engine_core.specs.Refusals.{RefusesActs, RefusesFlush, RefusesRunning, RefusesStep}
use Rattle.engine_core.specs.Running.{ScriptValue, on_disk}
use Rattle.engine_core.specs.Scripts.{ComesTo, HasFailed, OnRunning, RunsFlush, RunsTooFar, disk_of}
use Rattle.engine_core.specs.StepFaults.{IsCrashTold, IsLineTold, IsNotOpened, IsOpeningTold, IsReason, IsStepTold}
use Rattle.engine_core.specs.declared.fault.QueueFault.{QueueFault}
use Rattle.engine_core.specs.declared.fault.QueueFault.TheVariants as queue
use Rattle.engine_core.specs.declared.script.Script.{Script}
use Rattle.engine_core.specs.declared.script.Script.TheVariants.{Running, Stopped, Over}

-- a line `open`
pub told_of_open : (s : Script) (line : List ℕ) (now : Memory) (fault : QueueFault) → line ≡ codes "open" → IsOpeningTold s now fault → IsLineTold s line now fault
told_of_open s line now (queue.Memory refused) is told = told
told_of_open s line now (queue.Opening fault) is told = (is, told)
told_of_open s line now (queue.Storing flush.Broken) is told = record { reason = inl told.0; cause = inl told.1 }
told_of_open s line now (queue.Storing flush.Device) is told = absurd told
told_of_open s line now (queue.Storing flush.Full) is told = absurd told
told_of_open s line now (queue.Storing (flush.Memory refused)) is told = absurd told
told_of_open s line now queue.CountTooLarge is told = absurd told

-- the disk was the script's
pub told_as : (s : Script) (disk now : Memory) (fault : QueueFault) → disk ≡ disk_of s → IsOpeningTold (Stopped disk) now fault → IsOpeningTold s now fault
told_as s disk now (queue.Memory refused) is told = told ∙ ap (λ (d : Memory). d.failures) is
told_as s disk now (queue.Opening fault) is told = subst (λ d. IsNotOpened d fault now) is told
told_as s disk now (queue.Storing flush.Broken) is told = absurd told.0
told_as s disk now (queue.Storing flush.Device) is told = absurd told
told_as s disk now (queue.Storing flush.Full) is told = absurd told
told_as s disk now (queue.Storing (flush.Memory refused)) is told = absurd told
told_as s disk now queue.CountTooLarge is told = absurd told

reason_of : (fault : FlushFault) (s : Script) (line : List ℕ) (now : Memory) → (queue.Storing fault ≡ queue.Storing flush.Full → RunsFlush (LacksRoom now.content) s line)
    → (queue.Storing fault ≡ queue.Storing flush.Broken → HasFailed s ⊎ RunsFlush IsAny s line) → IsReason fault s line now
reason_of flush.Device s line now full broken = tt
reason_of flush.Full s line now full broken = full refl
reason_of flush.Broken s line now full broken = broken refl
reason_of (flush.Memory refused) s line now full broken = tt

-- a line that runs, with what it leaves
told_of_step : (s t : ScriptValue) (line : List ℕ) (fault : QueueFault) → (fault ≡ queue.Storing flush.Full → RunsFlush (LacksRoom t.disk.content) (Running s) line)
    → (fault ≡ queue.Storing flush.Broken → HasFailed (Running s) ⊎ RunsFlush IsAny (Running s) line) → IsStepTold s.disk.failures t.queue.durable t.disk.failures fault → IsLineTold (Running s) line t.disk fault
told_of_step s t line (queue.Memory refused) full broken told = told
told_of_step s t line queue.CountTooLarge full broken told = told
told_of_step s t line (queue.Opening fault) full broken told = absurd told
told_of_step s t line (queue.Storing fault) full broken told = record { reason = reason_of fault (Running s) line t.disk full broken; cause = inl told.1 }

failed_or : (s : ScriptValue) (Flushes : Type 0) → (s.queue.durable ≡ true → Flushes) → HasFailed (Running s) ⊎ Flushes
failed_or s Flushes flushes = by s.queue.durable flushes
  where
    by : (durable : Bool) → (durable ≡ true → Flushes) → (durable ≡ false) ⊎ Flushes
    by true flushes = inr (flushes refl)
    by false flushes = inl refl

-- a step that flushes what a line does
told_of_refusal : (s t : ScriptValue) (line : List ℕ) (fault : QueueFault) (GoesTooFar : Type 0) (Flushes : (QueueValue → Type 0) → Type 0) → ((Such : QueueValue → Type 0) → Flushes Such → RunsFlush Such (Running s) line)
    → RefusesStep GoesTooFar Flushes (on_disk s) (on_disk t) fault → IsLineTold (Running s) line t.disk fault
told_of_refusal s t line fault GoesTooFar Flushes runs refuses =
    told_of_step s t line fault (λ e. runs (LacksRoom t.disk.content) (refuses.full e)) (λ e. failed_or s (RunsFlush IsAny (Running s) line) (λ durable. runs IsAny (refuses.broken e durable))) refuses.told

-- `flush`
pub flush_told : (s t : Script) (line : List ℕ) (fault : QueueFault) → line ≡ codes "flush" → RefusesRunning (λ r. RefusesFlush (on_disk r)) s t fault → IsLineTold s line (disk_of t) fault
flush_told (Running s) (Running t) line fault is refuses = told_of_refusal s t line fault ⊥ (λ Such. Such s.queue) (λ Such such. inl (is, such)) refuses
flush_told (Running s) (Stopped disk) line fault is refuses = absurd refuses
flush_told (Running s) Over line fault is refuses = absurd refuses
flush_told (Stopped disk) t line fault is refuses = absurd refuses
flush_told Over t line fault is refuses = absurd refuses

pub flush_near : (s t : Script) (fault : QueueFault) → RefusesRunning (λ r. RefusesFlush (on_disk r)) s t fault → fault ≡ queue.CountTooLarge → ⊥
flush_near (Running s) (Running t) fault refuses e = refuses.err e
flush_near (Running s) (Stopped disk) fault refuses e = refuses
flush_near (Running s) Over fault refuses e = refuses
flush_near (Stopped disk) t fault refuses e = refuses
flush_near Over t fault refuses e = refuses

-- a line of a connection, which comes to such an act
module _ (line : List ℕ) (Comes : (ℕ → QueueValue → Act → Type 0) → ScriptValue → Type 0) (comes : (Such : ℕ → QueueValue → Act → Type 0) (r : ScriptValue) → Comes Such r → ComesTo Such r line) where
  acts_told : (s t : Script) (fault : QueueFault) → RefusesRunning (λ r. RefusesActs (λ Such. Comes Such r) (on_disk r)) s t fault → IsLineTold s line (disk_of t) fault
  acts_told (Running s) (Running t) fault refuses =
      told_of_refusal s t line fault (Comes IsTooFar s) (λ Such. Comes (IsFlush Such) s) (λ Such come. inr (inr (comes (IsFlush Such) s come))) refuses
  acts_told (Running s) (Stopped disk) fault refuses = absurd refuses
  acts_told (Running s) Over fault refuses = absurd refuses
  acts_told (Stopped disk) t fault refuses = absurd refuses
  acts_told Over t fault refuses = absurd refuses

  acts_far : (s t : Script) (fault : QueueFault) → RefusesRunning (λ r. RefusesActs (λ Such. Comes Such r) (on_disk r)) s t fault → fault ≡ queue.CountTooLarge → RunsTooFar s line
  acts_far (Running s) (Running t) fault refuses e = comes IsTooFar s (refuses.err e)
  acts_far (Running s) (Stopped disk) fault refuses e = absurd refuses
  acts_far (Running s) Over fault refuses e = absurd refuses
  acts_far (Stopped disk) t fault refuses e = absurd refuses
  acts_far Over t fault refuses e = absurd refuses

  pub all_told : {A : Type 0} (s t : Script) (result : Result A QueueFault) → IfErr result (RefusesRunning (λ r. RefusesActs (λ Such. Comes Such r) (on_disk r)) s t) → IfErr result (IsLineTold s line (disk_of t))
  all_told s t (Ok answer) refuses = tt
  all_told s t (Err fault) refuses = acts_told s t fault refuses

  pub all_far : {A : Type 0} (s t : Script) (result : Result A QueueFault) → IfErr result (RefusesRunning (λ r. RefusesActs (λ Such. Comes Such r) (on_disk r)) s t)
      → IfErr result (λ fault. fault ≡ queue.CountTooLarge → RunsTooFar s line)
  all_far s t (Ok answer) refuses = tt
  all_far s t (Err fault) refuses = acts_far s t fault refuses

-- a `crash`
crash_runs : (s : Script) (line : List ℕ) (k : ℕ) (fill : Option ℕ) (Such : QueueValue → Type 0) → IsCrash line k fill → OnRunning s (λ r. Such r.queue) → RunsFlush Such s line
crash_runs (Running s) line k fill Such is such = inr (inl (k, fill, is, such))
crash_runs (Stopped disk) line k fill Such is such = absurd such
crash_runs Over line k fill Such is such = absurd such

pub crash_told : (s : Script) (line : List ℕ) (k : ℕ) (fill : Option ℕ) (now : Memory) (fault : QueueFault) → IsCrash line k fill
    → (fault ≡ queue.Storing flush.Full → OnRunning s (λ r. LacksRoom now.content r.queue)) → IsCrashTold fault × OnRunning s (λ r. IsAny r.queue) → IsLineTold s line now fault
crash_told s line k fill now (queue.Memory refused) is full told = absurd told.0
crash_told s line k fill now (queue.Opening fault) is full told = absurd told.0
crash_told s line k fill now queue.CountTooLarge is full told = absurd told.0
crash_told s line k fill now (queue.Storing fault) is full told = record {
  reason = reason_of fault s line now (λ e. crash_runs s line k fill (LacksRoom now.content) is (full e)) (λ e. inr (crash_runs s line k fill IsAny is told.1));
  cause = inr (k, fill, is, told.0);
}
