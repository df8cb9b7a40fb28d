use Rattle.std.proofs.Common.{◌≡◌, ◌≤◌, length, min, take}
use Rattle.work_share.specs.Counts.{most, cost_from}
use Rattle.work_share.proofs.costs.under_way.Given as goal

abbrev pub invariant-loop-ticket : goal.invariant-loop-ticket
invariant-loop-ticket l = (l.ticket-index ≤ length l.commands) × (l.sum ≡ min most (cost_from l.mark (take l.ticket-index l.commands)))
