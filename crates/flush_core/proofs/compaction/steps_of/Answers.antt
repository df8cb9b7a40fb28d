use Rattle.std.proofs.Common.{arith, ap, sum_by, take, ◌≡◌, ◌∙◌}
use Rattle.std.proofs.lemmas.List.{take_all}
use Rattle.command_core.specs.Commands.{CommandValue}
use Rattle.flush_core.specs.Backlogs.{steps_of_op}
use Rattle.flush_core.proofs.BacklogCounts.{entry_steps, steps_more, steps_of_entries}
use Rattle.flush_core.proofs.compaction.steps_of.Goals as goal

pub loop-entry-preserved : goal.loop-entry-preserved
loop-entry-preserved g c =
    let more = steps_more c.args.batch.now c.loop-entry.entry-index c.entry-item.result c.loop-entry-test.true c.entry-item.is in
    let op : steps_of_op c.op.result.now ≡ entry_steps c.entry-item.result = ap steps_of_op (c.op.ensures.value ∙ ap (λ (x : CommandValue). x.op) c.command.ensures) in
    omega (arith, more, op, c.loop-entry.invariant, c.steps_of_op.ensures, c.saturating_add-steps.ensures)

pub returns : goal.returns
returns g c =
    let all : sum_by entry_steps (take c.loop-entry.entry-index c.args.batch.now) ≡ sum_by entry_steps c.args.batch.now =
    ap (λ es. sum_by entry_steps es) (take_all c.loop-entry.entry-index c.args.batch.now c.loop-entry-test.false) in
    omega (arith, c.loop-entry.invariant, all, steps_of_entries c.args.batch.now)
