use Rattle.std.proofs.Common.{◌≡◌}
use Rattle.std.specs.List.{All}
use Rattle.atomic_table.specs.Seated.{TableId}
use Rattle.server_core.specs.Serving.{AreAllAt, AreAt}
use Rattle.server_core.proofs.serving.join_all.Given as goal

abbrev pub invariant-loop-seats : goal.invariant-loop-seats
invariant-loop-seats l = (ring : TableId) → AreAt ring l.fn.all.items → AreAllAt ring l.fn.back.items → AreAt ring l.all.items
