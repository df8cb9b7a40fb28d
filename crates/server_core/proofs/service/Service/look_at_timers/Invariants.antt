use Rattle.std.proofs.Common.{◌≡◌}
use Rattle.server_core.proofs.service.Service.look_at_timers.Given as goal

abbrev pub invariant-loop-due : goal.invariant-loop-due
invariant-loop-due g l = l.self.shared ≡ l.fn.self.shared
