use Rattle.std.proofs.Common.{◌∙◌, Err, ap, rules, subst, sym}
use Rattle.broker_core.specs.States.{State}
use Rattle.flush_core.specs.declared.faults.FlushFault.{FlushFault}
use Rattle.flush_core.specs.declared.faults.FlushFault.TheVariants.{Full}
use Rattle.flush_core.proofs.StoreFaults.{same_fault}
use Rattle.engine_core.specs.Faults.{IsCausedBy}
use Rattle.engine_core.specs.Journals.{IsFull, JournalValue}
use Rattle.engine_core.specs.Placed.{commands_of}
use Rattle.engine_core.proofs.journal.Journal.record.Goals as goal

pub invariant_of-self-in-Ok-false : goal.invariant_of-self-in-Ok-false
invariant_of-self-in-Ok-false g c = search rules

pub invariant_of-self-in-Err : goal.invariant_of-self-in-Err
invariant_of-self-in-Err g c = search rules

pub invariant_of-self : goal.invariant_of-self
invariant_of-self g c = search rules

pub returns-in-Err-clause-refuses : goal.returns-in-Err-clause-refuses
returns-in-Err-clause-refuses g c = record {
  failed = search rules;
  cause = subst (λ (j : JournalValue g.row.D.Denot). IsCausedBy (g.D.Disk.failures j.disk) (g.D.Disk.failures c.go.new.flusher.disk) c.in-Err.fault) c.self.view_is c.in-Err.ensures.cause.cause;
  full = λ honest is.
      let was = subst (λ (j : JournalValue g.row.D.Denot). g.D.Disk.honest j.disk) (sym c.self.view_is) honest in
      let full = c.go.ensures.full was (c.in-Err.is ∙ ap (λ (fault : FlushFault). Err fault) (same_fault c.in-Err.fault Full is)) in
      subst (λ (s : State). IsFull s (commands_of c.args.waiting.items) (g.D.Disk.content c.go.new.flusher.disk)) (ap (λ (j : JournalValue g.row.D.Denot). j.state) c.self.view_is) full;
}
