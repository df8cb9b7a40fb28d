use Rattle.std.proofs.Common.{◌≡◌}
use Rattle.server_core.proofs.service.Service.take_some_in.Given as goal

abbrev pub invariant-loop-taken : goal.invariant-loop-taken
invariant-loop-taken g l = l.self.shared ≡ l.fn.self.shared
