use Rattle.std.proofs.Common.{◌≡◌, drop}
use Rattle.server_core.specs.Waits.{is_anybody_let_in}
use Rattle.server_core.proofs.event_loop.is_anybody_let_in.Given as goal

abbrev pub invariant-loop-service : goal.invariant-loop-service
invariant-loop-service g l = is_anybody_let_in l.mark (drop l.service-index l.services) ≡ is_anybody_let_in l.mark l.services
