use Rattle.std.proofs.Common.{List, ℕ, ◌++◌, ◌∙◌, ap, subst}
use Rattle.std.specs.List.{AllByRecursion}
use Rattle.std.proofs.lemmas.List.{take_all}
use Rattle.command_core.specs.Commands.{CommandValue}
use Rattle.area_core.specs.Areas.{HasRecord, records}
use Rattle.area_core.proofs.Batches.{carried}
use Rattle.world_core.proofs.OldJournals.{forms_more, records_more}
use Rattle.world_core.proofs.recovering.records_of.Goals as goal

pub loop-command-preserved : goal.loop-command-preserved
loop-command-preserved c =
    let i = c.loop-command.command-index in
    let command = c.command-item.result in
    let spells = c.in_ok-record.ensures in
    record {
      bytes = records_more c.args.commands.now i command c.loop-command-test.true c.command-item.is c.loop-command.out.items c.in_ok-record.record.items _ c.loop-command.invariant.bytes spells.spelled
          (c.in_ok-extend_from_slice.ensures.items ∙ ap (λ (l : List ℕ). c.loop-command.out.items ++ l) c.deref.ensures.value);
      each = forms_more c.args.commands.now i command c.loop-command-test.true c.command-item.is c.loop-command.invariant.each (carried c.in_ok-record.record.items command spells);
    }

pub returns-clause-bytes : goal.returns-clause-bytes
returns-clause-bytes c =
    c.loop-command.invariant.bytes ∙ ap (λ (cs : List CommandValue). records cs) (take_all c.loop-command.command-index c.args.commands.now c.loop-command-test.false)

pub returns-clause-each : goal.returns-clause-each
returns-clause-each c =
    subst (λ (cs : List CommandValue). AllByRecursion HasRecord cs) (take_all c.loop-command.command-index c.args.commands.now c.loop-command-test.false) c.loop-command.invariant.each
