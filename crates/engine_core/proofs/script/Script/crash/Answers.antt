use Rattle.std.proofs.Common.{◌≡◌, ◌∙◌, ap, subst, sym, IfNone, IfSome, string_bytes}
use Rattle.disk_core.specs.Memory.{Memory}
use Rattle.flush_core.specs.declared.faults.FlushFault.TheVariants.{Full}
use Rattle.engine_core.specs.Journals.{IsFull, StandsAfterFront}
use Rattle.engine_core.specs.Placed.{commands_of}
use Rattle.engine_core.specs.Queues.{LacksRoom, QueueOnDisk}
use Rattle.engine_core.specs.Scripts.{Crashes, OnRunning, StandsWithin, disk_of}
use Rattle.engine_core.specs.declared.fault.QueueFault.TheVariants.{Storing}
use Rattle.engine_core.proofs.Performing.{lacks_room, stood_within}
use Rattle.engine_core.proofs.script.Script.crash.Goals as goal

pub returns-in-None-clause-ok : goal.returns-in-None-clause-ok
returns-in-None-clause-ok c =
    let parts = c.into_parts-waiting in
    let stop = c.stop_within-disk in
    let content = stop.result.0.content in
    let stands = subst (λ f. IfNone f (∥ StandsAfterFront parts.result.1.state (commands_of parts.result.0.items) content ∥₁)) c.in-None.is stop.ensures.stands in
    subst (λ s. OnRunning s (λ u. Crashes u (string_bytes c.new.result) c.replace-in-Running.new.dest)) (sym c.in-Running.is ∙ c.replace.ensures.value)
    (record {
      none = c.new.ensures.bytes;
      disk = stop.result.0;
      after = c.replace-in-Running.ensures.after;
      stands = subst (λ (q : QueueOnDisk). ∥ StandsWithin q.queue content ∥₁) c.into_queue.ensures
          (stood_within c.into_queue.result.queue parts.result.0.items parts.result.1.state content parts.ensures.waiting parts.ensures.journal.0 stands);
    })

pub returns-in-Some-clause-full : goal.returns-in-Some-clause-full
returns-in-Some-clause-full c is =
    let parts = c.into_parts-waiting in
    let stop = c.stop_within-disk in
    let content = stop.result.0.content in
    let full = subst (λ f. IfSome f (λ fault. fault ≡ Storing Full → IsFull parts.result.1.state (commands_of parts.result.0.items) content)) c.in-Some.is stop.ensures.full in
    subst (λ s. OnRunning s (λ u. LacksRoom (disk_of c.replace-in-Running.new.dest).content u.queue)) (sym c.in-Running.is ∙ c.replace.ensures.value)
    (subst (λ (d : Memory). LacksRoom d.content c.in-Running.script.queue) (sym (ap disk_of c.replace-in-Running.ensures.after))
    (subst (λ (q : QueueOnDisk). LacksRoom content q.queue) c.into_queue.ensures
    (lacks_room c.into_queue.result.queue parts.result.0.items parts.result.1.state content parts.ensures.waiting parts.ensures.journal.0 (full is))))
