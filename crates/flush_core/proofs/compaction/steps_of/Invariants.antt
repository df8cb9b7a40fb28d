use Rattle.std.proofs.Common.{◌≡◌, min, sum_by, take}
use Rattle.flush_core.specs.Backlogs.{most_counted}
use Rattle.flush_core.proofs.BacklogCounts.{entry_steps}
use Rattle.flush_core.proofs.compaction.steps_of.Given as goal

abbrev pub invariant-loop-entry : goal.invariant-loop-entry
invariant-loop-entry g l = l.steps ≡ min (sum_by entry_steps (take l.entry-index l.batch)) most_counted
