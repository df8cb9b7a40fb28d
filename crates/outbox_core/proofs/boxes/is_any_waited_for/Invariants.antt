use Rattle.std.proofs.Common.{◌≡◌}
use Rattle.outbox_core.proofs.boxes.is_any_waited_for.Given as goal

abbrev pub invariant-loop-session : goal.invariant-loop-session
invariant-loop-session g l = l.all.entries ≡ l.fn.all.entries
