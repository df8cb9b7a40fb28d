use Rattle.std.proofs.Common.{◌≡◌}
use Rattle.server_core.proofs.service.Service.pass_again.Given as goal

abbrev pub invariant-loop-client : goal.invariant-loop-client
invariant-loop-client g l = l.self.shared ≡ l.fn.self.shared
