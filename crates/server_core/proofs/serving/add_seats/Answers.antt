use Rattle.std.proofs.Common.{rules}
use Rattle.server_core.proofs.serving.add_seats.Goals as goal

pub loop-seat-init : goal.loop-seat-init
loop-seat-init c = search rules
