use Rattle.std.proofs.Common.{◌≡◌}
use Rattle.server_core.proofs.service.Service.part_with_all.Given as goal

abbrev pub invariant-loop-number : goal.invariant-loop-number
invariant-loop-number g l = l.self.shared ≡ l.fn.self.shared
