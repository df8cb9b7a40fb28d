use Rattle.std.proofs.Common.{◌≡◌}
use Rattle.clients.specs.Schedules.{woken_short}
use Rattle.clients.specs.declared.timers.TheConstants.{NEVER}
use Rattle.clients.proofs.clients.Clients.retry.Given as goal

abbrev pub invariant-loop-number : goal.invariant-loop-number
invariant-loop-number l = l.self ≡ record l.fn.self { lines = woken_short l.number l.fn.self l.fn.self.lines; retry = NEVER }
