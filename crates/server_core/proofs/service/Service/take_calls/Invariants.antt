use Rattle.std.proofs.Common.{◌≡◌}
use Rattle.server_core.proofs.service.Service.take_calls.Given as goal

abbrev pub invariant-loop-word : goal.invariant-loop-word
invariant-loop-word g l = l.self.shared ≡ l.fn.self.shared
